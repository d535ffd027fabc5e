-- The snapshots of a run between its rounds: those that were taken stay, at most one is added a slot, each has five numbers; and an end
-- comes in time. Assumes nothing.
use Prim.Native.Nat.{ℕ, ◌+◌, ◌*◌, ◌≤◌, ◌<◌}
use mathlib.Core.Path.{◌≡◌, refl, subst}
use mathlib.Core.Bool.{Bool, true, false, cond, ◌&&◌}
use native.Mathlib.Omega.{arith}
use lib.Dec.{eqb, ltb}
use lib.ListN.{length}
use borrow.Author.Tests.{lt-ltb}
use Rattle.config.specs.Limits.{rounds_per_link, extra_rounds, most_rounds}
use Rattle.phy.specs.Round.{round}
use Rattle.phy.proofs.Counts.{round_most}
use Rattle.phy.proofs.Due.{Due, due_none, due_round, Grown, grown_none, grown_then, grown_round}
use Rattle.phy.proofs.Fives.{Fives, none, fives_slots}
use Rattle.pipeline.specs.Round.{initiator_of}
use Rattle.rules.specs.Accepted.{Accepted}
use Rattle.rules.specs.RunBounds.{longest}
use Rattle.rules.specs.Run.{Given, Running, begin, setup_of, prepared_in, complete, run_round, end_after, rounds_from, run_for, run}
use Rattle.rules.proofs.Ends.{along_rounds}

-- the snapshots that are due between rounds
abbrev pub DueIn : Given → Running → Type 0
DueIn g r = Due g.interval r.standing.slot r.standing.shots

module _ (g : Given) (a : Accepted g) where
  pub due_begin : DueIn g (begin g)
  due_begin = due_none g.interval (begin g).standing.shots a.interval refl refl

  module _ (k : ℕ) (r : Running) (due : DueIn g r) where
    pub due_next : DueIn g (run_round g k r)
    unfolding run_round
    due_next = due_round (setup_of g r.shared) (longest g) (initiator_of g.nodes k) (prepared_in g k r).packet r.standing a.interval due

    pub grown_next : Grown r.standing (run_round g k r).standing
    unfolding run_round
    grown_next = grown_round (setup_of g r.shared) (longest g) (initiator_of g.nodes k) (prepared_in g k r).packet r.standing a.interval due

    -- so a round adds at most as many as it may have slots
    pub few_next : length grown_next.more ≤ longest g
    unfolding run_round
    few_next = omega (arith, grown_next.few, round_most (setup_of g r.shared) (longest g) (initiator_of g.nodes k) (prepared_in g k r).packet r.standing)

  -- and what was taken stays to the end
  pub grown_through : (most k : ℕ) (r : Running) → DueIn g r → Grown r.standing (rounds_from g most k r).running.standing
  grown_through most k r due =
      (along_rounds g (λ k' r'. DueIn g r' × Grown r.standing r'.standing)
      (λ k' r' now. (due_next k' r' now.0, grown_then now.1 (grown_next k' r' now.0))) most k r (due, grown_none r.standing)).holds.1

-- every snapshot has its five numbers
pub fives_next : (g : Given) (k : ℕ) (r : Running) → Fives r.standing.shots.taken → Fives (run_round g k r).standing.shots.taken
unfolding run_round round
fives_next g k r f = fives_slots _ _ _ f

pub fives_run : (g : Given) → Fives (run g).running.standing.shots.taken
unfolding run_for
fives_run g = (along_rounds g (λ k r. Fives r.standing.shots.taken) (fives_next g) (most_rounds g.proposals) 0 (begin g) none).holds

-- from index P + 1,001 on there is an end
pub end_in_time : (g : Given) (k : ℕ) (r : Running) → g.proposals + extra_rounds < k → end_after g k r ≡ 0 → ⊥
unfolding end_after
end_in_time g k r late e =
    go (complete g.nodes g.proposals r.shared.states) (eqb (length r.shared.records) g.proposals && ltb (g.proposals + rounds_per_link * g.diameter) k)
    (subst (λ (b : Bool). ◌≡◌ {A = ℕ} (cond (complete g.nodes g.proposals r.shared.states) 1 (cond (eqb (length r.shared.records) g.proposals && ltb (g.proposals + rounds_per_link * g.diameter) k) 2 (cond b 3 0))) 0)
    (lt-ltb (g.proposals + extra_rounds) k late) e)
  where
    go : (b c : Bool) → ◌≡◌ {A = ℕ} (cond b 1 (cond c 2 (cond true 3 0))) 0 → ⊥
    go true c z = omega (arith, z)
    go false true z = omega (arith, z)
    go false false z = omega (arith, z)
