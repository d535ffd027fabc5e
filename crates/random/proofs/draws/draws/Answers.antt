use Rattle.std.proofs.Common.{arith}
use Rattle.random.proofs.Tables.{filled_all}
use Rattle.random.proofs.draws.draws.Goals as goal

pub returns : goal.returns
returns c = filled_all c.loop-i.invariant.0 (omega arith)
