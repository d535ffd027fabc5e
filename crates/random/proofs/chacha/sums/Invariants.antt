use Rattle.std.proofs.Common.{ℕ, get_or}
use Rattle.random.specs.Word.{plus}
use Rattle.random.proofs.Tables.{Filled}
use Rattle.random.proofs.chacha.sums.Given as goal

abbrev pub invariant-loop-i : goal.invariant-loop-i
invariant-loop-i l = Filled (λ (k : ℕ). plus (get_or l.a k 0) (get_or l.b k 0)) 16 l.word-items l.i
