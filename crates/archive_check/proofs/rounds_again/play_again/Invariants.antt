use Rattle.std.proofs.Common.{length}
use Rattle.rounds.specs.Going.{contents, SameTables}
use Rattle.archive_check.proofs.Replaying.{Comparing}
use Rattle.archive_check.proofs.rounds_again.play_again.Given as goal

abbrev pub invariant-loop-k : goal.invariant-loop-k
invariant-loop-k l = Comparing l.plan l.file.bytes.now l.k l.x (contents l.work) (length l.fn.work.snapshots.now) × SameTables l.fn.work l.work
