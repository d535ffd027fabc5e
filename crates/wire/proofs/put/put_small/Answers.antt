use Rattle.std.proofs.Common.{arith}
use Rattle.text.proofs.Overlays.{bounded}
use Rattle.text.proofs.Spelling.{spelled_short}
use Rattle.wire.proofs.put.put_small.Goals as goal

pub returns : goal.returns
returns c = bounded c.put_number.ensures (spelled_short 2 c.args.n (omega arith) (omega (arith, c.requires)))
