use Rattle.std.proofs.Common.{◌≡◌}
use Rattle.rules.specs.Run.{Running}
use Rattle.rounds.specs.Going.{contents, SameTables, Underway}
use Rattle.rounds.proofs.run.Workspace.play_rounds.Given as goal

-- the run is underway, and all its snapshots are stored that fit
abbrev pub invariant-loop-k : goal.invariant-loop-k
invariant-loop-k l =
    (here : Running) × Underway l.plan l.most l.k l.x (contents l.self) l.fn.self.snapshots.now here × (l.x.flood.first_stored ≡ 0) × SameTables l.fn.self l.self
