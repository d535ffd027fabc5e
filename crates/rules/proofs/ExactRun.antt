-- Where a run that loses nothing stands after k rounds. Assumes nothing.
use Prim.Native.Nat.{ℕ, zero, suc, ◌+◌, ◌-◌, ◌*◌, ◌/◌, ◌≤◌, ◌<◌, min}
use mathlib.Core.List.{List, [], ◌∷◌, ◌++◌}
use mathlib.Core.Logic.{◌⊎◌, inl, inr, ⊎_elim}
use mathlib.Core.Option.{some}
use mathlib.Core.Path.{◌≡◌, refl, sym, ap, ap₂, ◌∙◌, subst}
use native.Mathlib.Nat.{mod-lt, mul-le-mul_right}
use native.Mathlib.Omega.{arith}
use lib.ListN.{length, get_elem?, replicate, length-append, length-replicate, get_or-replicate}
use Rattle.random.specs.Table.{tabulate}
use Rattle.random.proofs.Tables.{is_tabulate}
use Rattle.network.proofs.Distances.{eccentricity_diameter}
use Rattle.phy.specs.declared.node.Node.{Node}
use Rattle.std.specs.Prelude.{Option, Some, None}
use Rattle.phy.specs.Round.{Flooded, length_limit, round}
use Rattle.phy.proofs.Tries.{Even}
use Rattle.phy.proofs.Lossless.{Lossless, each_took_part, all_took_part, lossless_tries, limit_enough}
use Rattle.protocol.specs.Paxos.{empty}
use Rattle.protocol.proofs.Kept.{state_is}
use Rattle.phy.specs.Slot.{sum_of}
use Rattle.pipeline.specs.Round.{Shared, Prepared, initiator_of, prepare_round, process_round}
use Rattle.rules.specs.Accepted.{Accepted}
use Rattle.rules.specs.Run.{Given, Past, Running, begin, setup_of, run_round}
use Rattle.rules.specs.ExactRounds.{sum, distance_in, farthest, slots_in, first_slot, rounds_of, ExactRound, AbsentOrAtLeast, Suited}
use Rattle.rules.proofs.Claimed.{entries, waits_high}
use Rattle.rules.proofs.ExactTurns.{Fits, votes_after, claimed, sent}
use Rattle.rules.proofs.ExactRound.{shared_at, in_round, begun_at, prepared, processed}
use Rattle.rules.proofs.Sums.{sum_most, sum_grown, sum_new}

-- after k rounds
pub record After (g : Given) (k : ℕ) (r : Running) : Type 0 where
  pub shared : r.shared ≡ shared_at (first_slot g) g.nodes g.proposals k
  pub slot : r.standing.slot ≡ first_slot g k
  pub even : r.standing.attempts ≡ r.standing.successes
  pub count : length r.rounds ≡ k
  pub past : (j : ℕ) (p : Past) → get_elem? r.rounds j ≡ some p → ExactRound g j p
  pub listen : sum_of (λ (v : Node). v.slots_listen) r.standing.nodes g.nodes ≡ sum k (λ (i : ℕ). sum g.nodes (λ (j : ℕ). distance_in g i j))
  pub flood : sum_of (λ (v : Node). v.slots_flood) r.standing.nodes g.nodes ≡ sum k (λ (i : ℕ). sum g.nodes (λ (j : ℕ). g.repeats))
  pub sleep : sum_of (λ (v : Node). v.slots_sleep) r.standing.nodes g.nodes ≡ sum k (λ (i : ℕ). sum g.nodes (λ (j : ℕ). farthest g i - distance_in g i j))
  pub covered : r.covered ≡ g.nodes * k
  pub took_part : r.took_part ≡ g.nodes * k

-- an element of a list with one more at its end
pub elem_snoc : {A : Type 0} (l : List A) (x : A) (j : ℕ) (p : A) → get_elem? (l ++ x ∷ []) j ≡ some p → (get_elem? l j ≡ some p) ⊎ ((j ≡ length l) × (x ≡ p))
elem_snoc [] x zero p e = inr (refl, cc)
elem_snoc [] x (suc j) p e = absurd (let z : ◌≡◌ {A = ℕ} 0 1 = cc in omega arith)
elem_snoc (y ∷ l) x zero p e = inl e
elem_snoc (y ∷ l) x (suc j) p e = ⊎_elim inl (λ w. inr (ap suc w.0, w.1)) (elem_snoc l x j p e)

-- nothing is shared before the first round
claimed_none : (n P i : ℕ) → empty ≡ claimed n P 0 i
unfolding claimed entries
claimed_none n P i =
    let c : 0 - n / 2 ≡ 0 = omega arith in
    let m : min 0 P ≡ 0 = omega arith in
    rw (c, m) (state_is refl (λ t. sym (waits_high 0 0 (votes_after n 0 i) t (omega arith))) refl)

shared_none : (S : ℕ → ℕ) (n P : ℕ)
    → record { states = replicate n empty; counter = 0; starts = []; records = []; piggyback = None; nacks = 0; piggybacks = 0 } ≡ shared_at S n P 0
unfolding shared_at tabulate
shared_none S n P =
    let c : 0 - n / 2 ≡ 0 = omega arith in
    let m : min 0 P ≡ 0 = omega arith in
    rw (c, m)
    (λ d. record {
      states = is_tabulate n (claimed n P 0) empty (replicate n empty) (length-replicate n empty) (λ i h. get_or-replicate n i empty empty h ∙ claimed_none n P i) d;
      counter = 0;
      starts = [];
      records = [];
      piggyback = None;
      nacks = 0;
      piggybacks = 0;
    })

module _ (g : Given) where
  pub after_none : Accepted g → After g 0 (begin g)
  unfolding shared_at sum
  after_none a =
      record {
        shared = shared_none (first_slot g) g.nodes g.proposals;
        slot = refl;
        even = refl;
        count = refl;
        past = λ j p e. absurd (let z : ◌≡◌ {A = ℕ} 0 1 = cc in omega arith);
        listen = sum_new (λ (v : Node). v.slots_listen) g.nodes g.nodes refl (omega arith);
        flood = sum_new (λ (v : Node). v.slots_flood) g.nodes g.nodes refl (omega arith);
        sleep = sum_new (λ (v : Node). v.slots_sleep) g.nodes g.nodes refl (omega arith);
        covered = omega arith;
        took_part = omega arith;
      }

module _ {g : Given} (a : Accepted g) (w : Suited g) where
  fits : {k : ℕ} → k < rounds_of g → Fits g.nodes g.proposals k
  fits h = record { two = a.two; narrow = omega arith; few = a.proposals; early = h }

  initiator_lt : (k : ℕ) → initiator_of g.nodes k < g.nodes
  initiator_lt k = mod-lt k (omega arith)

  -- ---- no round is longer than d + r, and every limit leaves room for that

  slots_most : (k : ℕ) → slots_in g k ≤ g.diameter + g.repeats
  slots_most k = omega (arith, eccentricity_diameter g.rows g.nodes a.checked (initiator_of g.nodes k) (initiator_lt k), a.measured)

  enough : (slots : Option ℕ) → AbsentOrAtLeast (g.diameter + g.repeats) slots → g.diameter + g.repeats ≤ length_limit slots g.diameter g.repeats
  enough None h = limit_enough g.diameter g.repeats a.repeats_low
  enough (Some slots) h = h

  pub below_limit : (k : ℕ) → k < rounds_of g → first_slot g k < g.limit
  below_limit k h = omega (arith, sum_most k (slots_in g) (g.diameter + g.repeats) slots_most, mul-le-mul_right (g.diameter + g.repeats) h, w.limit, a.repeats_low)

  -- ---- one round more

  module _ (k : ℕ) (early : k < rounds_of g) (r : Running) (now : After g k r) (even : Even r.standing (run_round g k r).standing) where
    pub after_next : After g (suc k) (run_round g k r)
    unfolding run_round sum
    after_next =
        record {
          shared = shared;
          slot = omega (arith, flood.length, now.slot);
          even = omega (arith, even, now.even);
          count = length-append r.rounds (this ∷ []) ∙ omega (arith, now.count);
          past = λ j p e. ⊎_elim (λ q. now.past j p q) (λ q. subst (λ (i : ℕ). ExactRound g i p) (sym (q.0 ∙ now.count)) (subst (ExactRound g k) q.1 exact)) (elem_snoc r.rounds this j p e);
          listen = sum_grown (λ (v : Node). v.slots_listen) r.standing.nodes flooded.after.nodes g.nodes (distance_in g k) flood.listened ∙ ap (λ (x : ℕ). x + sum g.nodes (distance_in g k)) now.listen;
          flood = sum_grown (λ (v : Node). v.slots_flood) r.standing.nodes flooded.after.nodes g.nodes (λ (j : ℕ). g.repeats) flood.flooded ∙ ap (λ (x : ℕ). x + sum g.nodes (λ (j : ℕ). g.repeats)) now.flood;
          sleep = sum_grown (λ (v : Node). v.slots_sleep) r.standing.nodes flooded.after.nodes g.nodes (λ (j : ℕ). farthest g k - distance_in g k j) flood.slept
              ∙ ap (λ (x : ℕ). x + sum g.nodes (λ (j : ℕ). farthest g k - distance_in g k j)) now.sleep;
          covered = omega (arith, now.covered, flood.covered);
          took_part = omega (arith, now.took_part, all_took_part flood);
        }
      where
        i : ℕ
        i = initiator_of g.nodes k

        ready : Prepared
        ready = prepare_round g.nodes g.proposals i r.standing.slot r.shared

        flooded : Flooded
        flooded = round (setup_of g r.shared) (length_limit g.round_slots g.diameter g.repeats) i ready.packet r.standing

        this : Past
        this = record { initiator = i; before = r.standing; packet = ready.packet; flooded = flooded }

        flood : Lossless (setup_of g r.shared) i ready.packet r.standing flooded
        flood =
            lossless_tries (setup_of g r.shared) (length_limit g.round_slots g.diameter g.repeats) i ready.packet r.standing
            a.checked w.joined (initiator_lt k) a.repeats_low (omega (arith, slots_most k, enough g.round_slots w.room)) even

        ready_is : ready ≡ record { shared = in_round (first_slot g) g.nodes g.proposals k (begun_at g.nodes g.proposals k); packet = sent g.nodes g.proposals k }
        ready_is = ap₂ (λ (x : ℕ) (s : Shared). prepare_round g.nodes g.proposals i x s) now.slot now.shared ∙ prepared (first_slot g) (fits early)

        shared : process_round g.nodes ready.packet flooded.after.slot flooded.part ready.shared ≡ shared_at (first_slot g) g.nodes g.proposals (suc k)
        shared =
            ap (λ (p : Prepared). process_round g.nodes p.packet flooded.after.slot flooded.part p.shared) ready_is
            ∙ processed (first_slot g) (fits early) flooded.after.slot flooded.part (each_took_part flood)

        exact : ExactRound g k this
        exact =
            record {
              initiator = refl;
              length = omega (arith, flood.length);
              listens = flood.listened;
              floods = flood.flooded;
              sleeps = flood.slept;
            }
