-- A run that loses nothing stops by itself after P + n / 2 rounds. Assumes nothing.
use Prim.Native.Nat.{ℕ, zero, suc, ◌+◌, ◌-◌, ◌/◌, ◌≤◌, ◌<◌}
use mathlib.Core.Bool.{true, false}
use mathlib.Core.Logic.{⊎_elim}
use mathlib.Core.Path.{◌≡◌, sym, ap, ◌∙◌, subst}
use native.Mathlib.Nat.{eq-or-lt_of_le}
use native.Mathlib.Omega.{arith}
use borrow.Author.Tests.{ne_eqb, lt-leb, le-ltb}
use lib.Dec.{leb, eqb}
use lib.ListN.{length}
use Rattle.network.specs.Graph.{all}
use Rattle.random.specs.Table.{tabulate}
use Rattle.network.proofs.Sets.{all_intro, all_false}
use Rattle.random.proofs.Tables.{length_tabulate, get_d_tabulate}
use Rattle.phy.specs.Slot.{Standing}
use Rattle.phy.proofs.Tries.{Even, successes_less}
use Rattle.protocol.specs.Paxos.{State, empty, logged}
use Rattle.protocol.proofs.Places.{either}
use Rattle.pipeline.specs.Round.{Shared, state_of}
use Rattle.rules.specs.Accepted.{Accepted}
use Rattle.config.specs.Limits.{most_rounds}
use Rattle.rules.specs.Run.{run_for, Given, Running, Ended, begin, run_round, complete, end_after, rounds_from, run}
use Rattle.rules.specs.ExactRounds.{first_slot, rounds_of, Suited}
use Rattle.rules.proofs.Ends.{from_next, from_end, along_rounds, tallied_next}
use Rattle.rules.proofs.Claimed.{entries, is_logged, entry_free}
use Rattle.rules.proofs.ExactTurns.{claimed}
use Rattle.rules.proofs.ExactRound.{exact_record, shared_at}
use Rattle.rules.proofs.ExactRun.{After, after_none, below_limit, after_next}

-- ---- successes grow by no more than attempts

abbrev pub Less : Standing → Standing → Type 0
Less s t = t.successes + s.attempts ≤ s.successes + t.attempts

less_round : (g : Given) (k : ℕ) (r : Running) → Less r.standing (run_round g k r).standing
less_round g k r = successes_less (tallied_next g k r)

less_from : (g : Given) (most k : ℕ) (r : Running) → Less r.standing (rounds_from g most k r).running.standing
less_from g most k r = (along_rounds g (λ i x. Less r.standing x.standing) (λ i x h. omega (arith, h, less_round g i x)) most k r (omega arith)).holds

-- from the next round on
less_next : (g : Given) (most k : ℕ) (r : Running) → leb g.limit r.standing.slot ≡ false → Less (run_round g k r).standing (rounds_from g (suc most) k r).running.standing
less_next g most k r e =
    ⊎_elim (λ f. subst (λ (x : Ended). Less (run_round g k r).standing x.running.standing) (sym (from_next g most k r e f)) (less_from g most (suc k) (run_round g k r)))
    (λ f. subst (λ (x : Ended). Less (run_round g k r).standing x.running.standing) (sym (from_end g most k r e f)) (omega arith))
    (either (eqb (end_after g k (run_round g k r)) 0))

-- ---- the end after each round

log_at : (n P k j : ℕ) → j < n → (state_of (tabulate n (claimed n P k)) j).log ≡ entries (k - n / 2)
unfolding claimed
log_at n P k j h = ap (λ (s : State). s.log) (get_d_tabulate n (claimed n P k) j empty h)

pub complete_then : (n P k : ℕ) → P ≤ k - n / 2 → complete n P (tabulate n (claimed n P k)) ≡ true
unfolding complete
complete_then n P k h =
    all_intro n (λ (j : ℕ). all P (λ (t : ℕ). logged t (state_of (tabulate n (claimed n P k)) j).log))
    (λ j l. all_intro P (λ (t : ℕ). logged t (state_of (tabulate n (claimed n P k)) j).log)
    (λ t m. ap (logged t) (log_at n P k j l) ∙ is_logged t (k - n / 2) (omega arith)))

pub complete_not : (n P k : ℕ) → 0 < n → k - n / 2 < P → complete n P (tabulate n (claimed n P k)) ≡ false
unfolding complete
complete_not n P k h l =
    all_false n (λ (j : ℕ). all P (λ (t : ℕ). logged t (state_of (tabulate n (claimed n P k)) j).log)) 0 h
    (all_false P (λ (t : ℕ). logged t (state_of (tabulate n (claimed n P k)) 0).log) (P - 1) (omega arith)
    (ap (logged (P - 1)) (log_at n P k 0 h) ∙ entry_free (P - 1) (k - n / 2) (omega arith)))

module _ {g : Given} (a : Accepted g) (w : Suited g) (k : ℕ) (r : Running) (now : After g (suc k) r) where
  states_are : r.shared.states ≡ tabulate g.nodes (claimed g.nodes g.proposals (suc k))
  unfolding shared_at
  states_are = ap (λ (s : Shared). s.states) now.shared

  records_are : length r.shared.records ≡ suc k - g.nodes / 2
  unfolding shared_at
  records_are = ap (λ (s : Shared). length s.records) now.shared ∙ length_tabulate (suc k - g.nodes / 2) (exact_record (first_slot g) g.nodes)

  pub ends : suc k ≡ rounds_of g → end_after g k r ≡ 1
  unfolding end_after
  ends e = rw (ap (complete g.nodes g.proposals) states_are ∙ complete_then g.nodes g.proposals (suc k) (omega arith))

  pub goes_on : suc k < rounds_of g → end_after g k r ≡ 0
  unfolding end_after
  goes_on h =
      rw (
        ap (complete g.nodes g.proposals) states_are ∙ complete_not g.nodes g.proposals (suc k) (omega arith) (omega arith),
        ne_eqb (length r.shared.records) g.proposals (λ q. omega (arith, records_are)),
        le-ltb (g.proposals + 1000) k (omega arith),
      )

-- ---- the run

pub record Stopped (g : Given) (e : Ended) : Type 0 where
  pub ended : e.ended ≡ 1
  pub after : After g (rounds_of g) e.running

pub stops_from : {g : Given} → Accepted g → Suited g → (most k : ℕ) (r : Running) → After g k r → k < rounds_of g → rounds_of g ≤ k + most
    → (rounds_from g most k r).running.standing.attempts ≡ (rounds_from g most k r).running.standing.successes → Stopped g (rounds_from g most k r)
stops_from a w zero k r now h l none = absurd (omega arith)
stops_from {g} a w (suc most) k r now h l none =
    let open-yet : leb g.limit r.standing.slot ≡ false = lt-leb g.limit r.standing.slot (omega (arith, below_limit a w k h, now.slot)) in
    let even : Even r.standing (run_round g k r).standing = omega (arith, now.even, none, less_round g k r, less_next g most k r open-yet) in
    let after : After g (suc k) (run_round g k r) = after_next a w k h r now even in
    ⊎_elim
    (λ last.
    let one = ends a w k (run_round g k r) after last in
    subst (Stopped g) (sym (from_end g most k r open-yet (ap (λ (x : ℕ). eqb x 0) one)))
    (record { ended = one; after = subst (λ (x : ℕ). After g x (run_round g k r)) last after }))
    (λ on.
    let same = from_next g most k r open-yet (ap (λ (x : ℕ). eqb x 0) (goes_on a w k (run_round g k r) after on)) in
    subst (Stopped g) (sym same)
    (stops_from a w most (suc k) (run_round g k r) after on (omega arith)
    (subst (λ (x : Ended). x.running.standing.attempts ≡ x.running.standing.successes) same none)))
    (eq-or-lt_of_le h)

pub stops : (g : Given) → Accepted g → Suited g → (run g).running.standing.attempts ≡ (run g).running.standing.successes → Stopped g (run g)
unfolding run_for
stops g a w none = stops_from a w (most_rounds g.proposals) 0 (begin g) (after_none g a) (omega (arith, w.proposes)) (omega arith) none
