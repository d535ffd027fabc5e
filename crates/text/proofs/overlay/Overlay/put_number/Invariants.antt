use Rattle.text.proofs.Digits.{Spells}
use Rattle.text.proofs.overlay.Overlay.put_number.Given as goal

abbrev pub invariant-loop-rest : goal.invariant-loop-rest
invariant-loop-rest l = Spells l.n l.rest l.first l.digits

abbrev pub decreases-loop-rest : goal.decreases-loop-rest
decreases-loop-rest l = l.rest
