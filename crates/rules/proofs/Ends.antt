-- The rounds from k on: one round more, or an end; what every round keeps; and the shortest log before the first round. Assumes nothing.
use Prim.Native.Nat.{ℕ, zero, suc, ◌+◌, ◌≤◌, min}
use mathlib.Core.Bool.{true, false}
use mathlib.Core.List.{List, []}
use mathlib.Core.Logic.{⊎_elim}
use mathlib.Core.Path.{◌≡◌, refl, sym, ap, subst, ◌∙◌}
use native.Mathlib.Nat.{zero-min}
use native.Mathlib.Omega.{arith}
use lib.Dec.{leb, eqb}
use lib.ListN.{length, replicate}
use Rattle.network.proofs.Sets.{two}
use Rattle.phy.specs.Round.{length_limit}
use Rattle.phy.proofs.Tries.{Tallied, tallied_round}
use Rattle.protocol.specs.Paxos.{State, empty}
use Rattle.pipeline.specs.Round.{state_of, initiator_of, prepare_round, shortest_from, shortest_log}
use Rattle.rules.specs.Run.{Given, Running, Ended, setup_of, run_round, end_after, rounds_from}

module _ (g : Given) (most k : ℕ) (r : Running) where
  pub from_limit : leb g.limit r.standing.slot ≡ true → rounds_from g (suc most) k r ≡ record { running = r; ended = 4 }
  unfolding rounds_from
  from_limit e = rw (rounds_from, e)

  pub from_next : leb g.limit r.standing.slot ≡ false → eqb (end_after g k (run_round g k r)) 0 ≡ true → rounds_from g (suc most) k r ≡ rounds_from g most (suc k) (run_round g k r)
  unfolding rounds_from
  from_next e f = rw (rounds_from, e, f)

  pub from_end : leb g.limit r.standing.slot ≡ false → eqb (end_after g k (run_round g k r)) 0 ≡ false
      → rounds_from g (suc most) k r ≡ record { running = run_round g k r; ended = end_after g k (run_round g k r) }
  unfolding rounds_from
  from_end e f = rw (rounds_from, e, f)

-- Over the rounds: what every round keeps holds at the end, after at most `most` rounds more.
pub record Through (R : ℕ → Running → Type 0) (most k : ℕ) (r : Running) : Type 0 where
  pub after : ℕ
  pub few : after ≤ k + most
  pub holds : R after r

module _ (g : Given) (R : ℕ → Running → Type 0) (step : (k : ℕ) (r : Running) → R k r → R (suc k) (run_round g k r)) where
  pub along_rounds : (most k : ℕ) (r : Running) → R k r → Through R most k (rounds_from g most k r).running
  unfolding rounds_from
  along_rounds zero k r now = record { after = k; few = omega arith; holds = now }
  along_rounds (suc most) k r now =
      ⊎_elim
      (λ e. subst (λ (x : Ended). Through R (suc most) k x.running) (sym (from_limit g most k r e)) (record { after = k; few = omega arith; holds = now }))
      (λ e.
      ⊎_elim
      (λ f.
      let rest = along_rounds most (suc k) (run_round g k r) (step k r now) in
      subst (λ (x : Ended). Through R (suc most) k x.running) (sym (from_next g most k r e f)) (record { after = rest.after; few = omega (arith, rest.few); holds = rest.holds }))
      (λ f. subst (λ (x : Ended). Through R (suc most) k x.running) (sym (from_end g most k r e f)) (record { after = suc k; few = omega arith; holds = step k r now }))
      (two (eqb (end_after g k (run_round g k r)) 0)))
      (two (leb g.limit r.standing.slot))

-- attempts and successes of one round
pub tallied_next : (g : Given) (k : ℕ) (r : Running) → Tallied g.nodes g.heard r.standing (run_round g k r).standing
unfolding run_round
tallied_next g k r =
    let i : ℕ = initiator_of g.nodes k in
    tallied_round (setup_of g r.shared) (length_limit g.round_slots g.diameter g.repeats) i
    (prepare_round g.nodes g.proposals i r.standing.slot r.shared).packet r.standing

shortest_none : (states : List State) (m : ℕ) → shortest_from 0 states m ≡ 0
unfolding shortest_from
shortest_none states zero = refl
shortest_none states (suc m) = ap (λ (k : ℕ). min k (length (state_of states m).log)) (shortest_none states m) ∙ zero-min _

pub shortest_new : (n : ℕ) → shortest_log (replicate n empty) n ≡ 0
shortest_new zero = shortest_none [] 0
shortest_new (suc n) = shortest_none (replicate (suc n) empty) (suc n)
