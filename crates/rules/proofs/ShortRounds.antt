-- What question 16 leaves, and what it rules out. Assumes nothing.
use Prim.Native.Nat.{ℕ, suc, ◌+◌, ◌*◌, ◌^◌, ◌≤◌, ◌<◌}
use mathlib.Core.Bool.{Bool, true, false, cond}
use mathlib.Core.Logic.{⊎_elim}
use mathlib.Core.Path.{◌≡◌, refl, sym, ap, subst, ◌∙◌}
use native.Mathlib.Nat.{mod-lt, mul-le-mul}
use native.Mathlib.Omega.{arith}
use lib.Count.{ones}
use lib.Dec.{eqb, leb}
use lib.ListN.{length, get_or-replicate}
use borrow.Author.Tests.{leb-true, leb-false, le-leb}
use Rattle.config.specs.declared.refusal.Refusal.{Refusal}
use Rattle.config.specs.Limits.{max_repeats, max_round_slots, most_rounds}
use Rattle.std.specs.Prelude.{Option, Some, None}
use Rattle.network.specs.Graph.{has, count}
use Rattle.network.specs.Questions.{within, first_no}
use Rattle.network.proofs.Sets.{two, set_of_one, has_one}
use Rattle.network.proofs.Within.{within_both}
use Rattle.phy.specs.declared.node.Node.{Node}
use Rattle.phy.specs.Node.{new}
use Rattle.phy.specs.Slot.{at}
use Rattle.phy.specs.Round.{Flooded, took_part_of, length_limit}
use Rattle.phy.specs.Asleep.{InitiatorSlept, NobodySlept}
use Rattle.phy.proofs.Nodes.{count_cong, ones_set_of}
use Rattle.phy.proofs.Counts.{sum_each}
use Rattle.phy.proofs.Asleep.{initiator_sleeps, nobody_sleeps}
use Rattle.protocol.proofs.Sets.{one_bit}
use Rattle.pipeline.specs.Round.{initiator_of}
use Rattle.rules.specs.Accepted.{Accepted}
use Rattle.rules.specs.Questions.{slots_allowed, slots_suffice, other_questions}
use Rattle.rules.specs.Run.{Given, Past, Running, begin, setup_of, prepared_in, flooded_in, run_round, run_for}
use Rattle.rules.specs.Entries.{given_for}
use Rattle.rules.specs.ShortRounds.{InitiatorsSleep, Unfinished, ShortRoundsUnfinished, EitherFirst}
use Rattle.rules.proofs.Admitted.{admitted}
use Rattle.rules.proofs.Ends.{along_rounds}
use Rattle.rules.proofs.FirstRounds.{made_of}
use Rattle.rules.proofs.Rounds.{rounds_more}

-- ---- rounds that are long enough

-- the length limit is at least the repeats
limit_suffices : (slots : Option ℕ) (d repeats : ℕ) → slots_suffice repeats slots ≡ true → repeats ≤ length_limit slots d repeats
limit_suffices (Some s) d repeats ok = leb-true repeats s ok
limit_suffices None d repeats ok =
    let most : 1 * repeats ≤ (d + 2) * repeats = mul-le-mul {n₁ = 1} {m₁ = repeats} {n₂ = d + 2} {m₂ = repeats} (omega arith) (omega arith) in
    omega (arith, most)

-- the node that starts round k is one of the nodes
initiator_low : (n k : ℕ) → 1 ≤ n → initiator_of n k < n
initiator_low n k h = mod-lt k h

pub slept_in : (g : Given) → Accepted g → (k : ℕ) (r : Running) → InitiatorSlept g.repeats (initiator_of g.nodes k) r.standing (flooded_in g k r)
slept_in g a k r =
    initiator_sleeps (setup_of g r.shared) (length_limit g.round_slots g.diameter g.repeats) (initiator_of g.nodes k) (prepared_in g k r).packet r.standing
    (initiator_low g.nodes k (omega (arith, a.two))) a.repeats_low (limit_suffices g.round_slots g.diameter g.repeats a.slots_suffice)

pub initiators_sleep : InitiatorsSleep
initiators_sleep q c logs records snapshots s e k p h =
    let g : Given = given_for q c in
    subst (λ (x : Past). InitiatorSlept c.flood_repeats x.initiator x.before x.flooded) (sym (made_of g (most_rounds g.proposals) k p h))
    (slept_in g (admitted q c logs records snapshots s e).accepted k (run_for g k).running)

-- ---- rounds that are too short

-- a set of one node has the size 1
alone : (n a : ℕ) (r : Flooded) → a < n → r.part ≡ 2 ^ a → took_part_of n r ≡ 1
alone n a r h e =
    ap (λ (x : ℕ). count n (has x)) e
    ∙ count_cong n (has (2 ^ a)) (λ (j : ℕ). eqb j a) (λ j l. has_one n a j h l)
    ∙ sym (ones_set_of n (λ (j : ℕ). eqb j a))
    ∙ ap ones (set_of_one n a h)
    ∙ one_bit a

module _ (g : Given) (longest : ℕ) (some-node : 1 ≤ g.nodes) (given : g.round_slots ≡ Some longest) (short : longest < g.repeats) where
  nobody_in : (k : ℕ) (r : Running) → NobodySlept g.nodes longest (initiator_of g.nodes k) r.standing (flooded_in g k r)
  nobody_in k r =
      let is : length_limit g.round_slots g.diameter g.repeats ≡ longest = ap (λ (x : Option ℕ). length_limit x g.diameter g.repeats) given in
      subst (λ (m : ℕ). NobodySlept g.nodes m (initiator_of g.nodes k) r.standing (flooded_in g k r)) is
      (nobody_sleeps (setup_of g r.shared) (length_limit g.round_slots g.diameter g.repeats) (initiator_of g.nodes k) (prepared_in g k r).packet r.standing
      (initiator_low g.nodes k some-node) (omega (arith, is)))

  -- after k rounds
  record Awake (k : ℕ) (r : Running) : Type 0 where
    count : length r.rounds ≡ k
    slept : (j : ℕ) → j < g.nodes → (at r.standing.nodes j).slots_sleep ≡ 0
    took_part : r.took_part ≡ k
    slot : r.standing.slot ≡ k * longest

  awake_none : Awake 0 (begin g)
  awake_none = record { count = refl; slept = λ j h. ap (λ (v : Node). v.slots_sleep) (get_or-replicate g.nodes j new new h); took_part = refl; slot = omega arith }

  awake_next : (k : ℕ) (r : Running) → Awake k r → Awake (suc k) (run_round g k r)
  unfolding run_round
  awake_next k r now =
      let this = nobody_in k r in
      record {
        count = rounds_more g k r ∙ omega (arith, now.count);
        slept = λ j h. this.slept j h ∙ now.slept j h;
        took_part = omega (arith, now.took_part, alone g.nodes (initiator_of g.nodes k) (flooded_in g k r) (initiator_low g.nodes k some-node) this.part);
        slot = omega (arith, this.length, now.slot);
      }

  unfinished : Unfinished g longest
  unfolding run_for
  unfinished =
      let end = (along_rounds g Awake awake_next (most_rounds g.proposals) 0 (begin g) awake_none).holds in
      record {
        each = λ k p e.
            subst (λ (x : Past). NobodySlept g.nodes longest x.initiator x.before x.flooded) (sym (made_of g (most_rounds g.proposals) k p e)) (nobody_in k (run_for g k).running);
        sleep = sum_each (λ (v : Node). v.slots_sleep) _ g.nodes 0 end.slept ∙ omega arith;
        took_part = end.took_part ∙ sym end.count;
        slots = end.slot ∙ ap (λ (k : ℕ). k * longest) (sym end.count);
      }

pub short_rounds_unfinished : ShortRoundsUnfinished
short_rounds_unfinished g longest some-node given short = unfinished g longest some-node given short

-- ---- 6 and 16
pub either_first : EitherFirst
either_first c = go (within 1 max_repeats c.flood_repeats) refl c.round_slots
  where
    rest : Option Refusal
    rest = first_no (other_questions c)

    go : (b : Bool) → within 1 max_repeats c.flood_repeats ≡ b → (slots : Option ℕ)
        → cond b (cond (slots_allowed slots) (cond (slots_suffice c.flood_repeats slots) rest (Some Refusal.ShortRound)) (Some Refusal.RoundLength)) (Some Refusal.RepeatCount)
        ≡ cond b (cond (slots_suffice c.flood_repeats slots) (cond (slots_allowed slots) rest (Some Refusal.RoundLength)) (Some Refusal.ShortRound)) (Some Refusal.RepeatCount)
    go false e slots = refl
    go true e None = refl
    go true e (Some m) =
        ⊎_elim (λ p. rw p)
        (λ p.
        let long : leb c.flood_repeats m ≡ true = le-leb c.flood_repeats m (omega (arith, leb-false m max_round_slots p, within_both 1 max_repeats c.flood_repeats e)) in
        rw (p, long))
        (two (leb m max_round_slots))
