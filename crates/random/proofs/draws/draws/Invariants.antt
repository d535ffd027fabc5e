use Rattle.std.proofs.Common.{length}
use Rattle.random.specs.Draws.{draw, DrawNext}
use Rattle.random.proofs.Tables.{Filled}
use Rattle.random.proofs.draws.draws.Given as goal

abbrev pub invariant-loop-i : goal.invariant-loop-i
invariant-loop-i l = Filled (draw l.seed) (length l.initial.out) l.out l.i × DrawNext l.seed l.i l.stream
