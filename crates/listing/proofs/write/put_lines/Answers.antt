use Rattle.std.proofs.Common.{arith}
use Rattle.text.proofs.Overlays.{each_none, each_more}
use Rattle.listing.proofs.write.put_lines.Goals as goal

pub loop-i-init : goal.loop-i-init
loop-i-init c = each_none

pub loop-i-preserved : goal.loop-i-preserved
loop-i-preserved c = each_more c.loop-i.invariant (omega arith) c.put_line.ensures
