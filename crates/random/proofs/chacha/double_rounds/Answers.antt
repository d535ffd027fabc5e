use Rattle.std.proofs.Common.{refl, ap, ◌∙◌, add-one, arith}
use Rattle.random.specs.ChaCha.{column_round, diagonal_round, double_rounds}
use Rattle.random.proofs.chacha.double_rounds.Goals as goal

pub loop-i-init : goal.loop-i-init
unfolding double_rounds
loop-i-init c = (omega arith, refl)

pub loop-i-preserved : goal.loop-i-preserved
unfolding double_rounds
loop-i-preserved c = (
  omega arith,
  rw add-one (c.diagonal_round-t.ensures ∙ ap diagonal_round (c.column_round.ensures ∙ ap column_round c.loop-i.invariant.1)),
)
