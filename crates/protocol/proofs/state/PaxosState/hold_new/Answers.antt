-- `protocol::paxos::PaxosState::hold_new` meets its contract, by cases.
-- Assumes nothing.
use mathlib.Core.Path.{sym, ◌∙◌}
use Rattle.protocol.specs.View.{view}
use Rattle.protocol.proofs.Steps.{next_same, hold_held, hold_free}
use Rattle.protocol.proofs.state.PaxosState.hold_new.Goals as goal

pub returns-then-is_held : goal.returns-then-is_held
returns-then-is_held c =
    let a = c.args in
    next_same (hold_held a.term.0 a.votes a.d (view a.self.now) (sym c.is_held.ensures ∙ c.if-is_held.true))

pub returns : goal.returns
returns c =
    let a = c.args in
    let n = c.hold.ensures in
    record { kept = n.kept; is = n.is ∙ hold_free a.term.0 a.votes a.d (view a.self.now) (sym c.is_held.ensures ∙ c.if-is_held.false) }
