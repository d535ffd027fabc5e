-- Attempts and successes of a run are equal exactly when nothing is lost. Assumes nothing.
use Prim.Native.Nat.{ℕ, ◌<◌}
use mathlib.Core.Bool.{Bool, true, ◌||◌}
use mathlib.Core.Logic.{◌↔◌}
use mathlib.Core.Path.{◌≡◌, ap, subst}
use native.Mathlib.Omega.{arith}
use Rattle.random.specs.Reception.{lossless, succeeds, heard_at}
use Rattle.random.specs.Draws.{draw}
use Rattle.phy.proofs.Tries.{Tallied, tallied_none, tallied_then, all_heard, none_lost}
use Rattle.metrics.specs.declared.summary.Summary.{Summary}
use Rattle.config.specs.declared.Config.{Config}
use Rattle.config.specs.Limits.{most_rounds}
use Rattle.rules.specs.Run.{run_for, Given, begin, run}
use Rattle.rules.specs.Networks.{RowsOrTopology}
use Rattle.rules.specs.Entries.{given_for}
use Rattle.rules.specs.NothingLost.{EqualWhenHeard, EqualAtRate0, ExactAtRate0}
use Rattle.rules.proofs.Ends.{along_rounds, tallied_next}
use Rattle.rules.proofs.Admitted.{admitted}
use Rattle.rules.proofs.ExactRounds.{exact_rounds}

-- over the run
tallied_run : (g : Given) → Tallied g.nodes g.heard (begin g).standing (run g).running.standing
unfolding run_for
tallied_run g =
    (along_rounds g (λ k r. Tallied g.nodes g.heard (begin g).standing r.standing)
    (λ k r t. tallied_then t (tallied_next g k r))
    (most_rounds g.proposals) 0 (begin g) (tallied_none g.nodes g.heard (begin g).standing)).holds

pub equal_when_heard : EqualWhenHeard
equal_when_heard q c logs records snapshots s e =
    let g : Given = given_for q c in
    let t = tallied_run g in
    subst (λ (x : Summary). (x.attempts ≡ x.successes) ↔ ((k : ℕ) → k < x.attempts → g.heard k ≡ true)) (admitted q c logs records snapshots s e).summary
    ((λ same k h. all_heard t (omega (arith, same)) k (omega arith) h), (λ all. let r = none_lost t (λ k low h. all k h) in omega (arith, r)))

-- every attempt is heard at a rate of 0 or minus 0
heard_0 : (q : RowsOrTopology) (c : Config) → lossless c.loss_rate ≡ true → (k : ℕ) → (given_for q c).heard k ≡ true
unfolding heard_at
heard_0 q c e k = ap (λ (b : Bool). b || succeeds c.loss_rate (draw c.seed k)) e

pub equal_at_rate_0 : EqualAtRate0
equal_at_rate_0 q c logs records snapshots s e free = (equal_when_heard q c logs records snapshots s e).1 (λ k h. heard_0 q c free k)

pub exact_at_rate_0 : ExactAtRate0
exact_at_rate_0 q c logs records snapshots s e free w =
    exact_rounds q c logs records snapshots s (record { accepted = e; equal = equal_at_rate_0 q c logs records snapshots s e free; suited = w })
