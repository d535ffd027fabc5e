use Rattle.std.proofs.Common.{arith}
use Rattle.random.specs.ChaCha.{sums}
use Rattle.random.proofs.Tables.{filled_all}
use Rattle.random.proofs.chacha.sums.Goals as goal

pub returns : goal.returns
unfolding sums
returns c = filled_all c.loop-i.invariant (omega arith)
