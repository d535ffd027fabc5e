use Rattle.std.proofs.Common.{arith}
use Rattle.text.proofs.Overlays.{each_none, each_more}
use Rattle.listing.proofs.write.put_terms.Goals as goal

pub loop-k-init : goal.loop-k-init
loop-k-init c = each_none

pub loop-k-preserved : goal.loop-k-preserved
loop-k-preserved c = each_more c.loop-k.invariant (omega arith) c.put_term.ensures
