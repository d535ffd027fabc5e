use Rattle.std.proofs.Common.{refl, arith}
use Rattle.network.specs.Graph.{widened}
use Rattle.network.proofs.Rows.{widened_more}
use Rattle.network.proofs.graph.widen.Goals as goal

pub loop-i-init : goal.loop-i-init
unfolding widened
loop-i-init c = refl

pub loop-i-preserved : goal.loop-i-preserved
loop-i-preserved c = rw c.loop-i.invariant (widened_more c.args.rows.now c.loop-i.i (omega arith) (omega arith))
