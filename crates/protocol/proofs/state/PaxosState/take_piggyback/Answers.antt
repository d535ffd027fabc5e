-- `protocol::turns::PaxosState::take_piggyback` meets its contract, by cases.
-- Assumes nothing.
use mathlib.Core.Path.{refl}
use Rattle.protocol.specs.Turns.{take_piggyback}
use Rattle.protocol.proofs.Steps.{next_same, next_if}
use Rattle.protocol.proofs.state.PaxosState.take_piggyback.Goals as goal

pub returns-in_default : goal.returns-in_default
unfolding take_piggyback
returns-in_default c = rw c.in_default.is (next_same refl)

pub returns-in-Some : goal.returns-in-Some
unfolding take_piggyback
returns-in-Some c = rw c.in-Some.is (next_if (λ k p. p.0) c.hold_new.ensures)
