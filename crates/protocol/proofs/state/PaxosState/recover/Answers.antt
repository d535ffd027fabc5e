-- `protocol::paxos::PaxosState::recover` meets its contract, by cases.
-- Assumes nothing.
use Rattle.std.specs.Prelude.{Option, Some, None}
use mathlib.Core.Bool.{Bool, cond}
use mathlib.Core.Path.{◌≡◌, sym, ap, ◌∙◌}
use Rattle.network.specs.declared.units.Term.{Term}
use Rattle.protocol.specs.declared.state.PaxosState.{PaxosState}
use Rattle.protocol.specs.Paxos.{held, recovery}
use Rattle.protocol.specs.View.{view, data_at}
use Rattle.protocol.proofs.Kept.{held_free}
use Rattle.protocol.proofs.Steps.{recovery_view}
use Rattle.protocol.proofs.state.PaxosState.recover.Goals as goal

-- what is answered for the term of a NACK
answer : (s : PaxosState) (nack : Option Term) (term : Term) {held_too : Bool} → nack ≡ Some term → held term.0 (view s) ≡ held_too →
    recovery nack (view s) ≡ cond held_too (Some (record { term = term; «data» = (data_at s term.0) })) None
answer s nack term is e =
    ap (λ n. recovery n (view s)) is ∙
    recovery_view s term ∙
    ap (λ (x : Bool). cond x (Some (record { term = term; «data» = (data_at s term.0) })) None) e

pub returns-in_err-term : goal.returns-in_err-term
unfolding recovery
returns-in_err-term c = c.from_residual.ensures ∙ sym (ap (λ n. recovery n (view c.args.self.now)) c.in_err-term.was)

pub returns-then-t-ge-MAX_TERMS : goal.returns-then-t-ge-MAX_TERMS
returns-then-t-ge-MAX_TERMS c =
    sym (answer c.args.self.now c.args.nack c.in_ok-term.term c.in_ok-term.was (held_free c.requires c.in_ok-term.term.0 c.if-t-ge-MAX_TERMS.true))

pub returns-then-not-is_held : goal.returns-then-not-is_held
returns-then-not-is_held c =
    sym (answer c.args.self.now c.args.nack c.in_ok-term.term c.in_ok-term.was (sym c.is_held.ensures ∙ c.if-not-is_held.true))

pub returns : goal.returns
returns c =
    sym (answer c.args.self.now c.args.nack c.in_ok-term.term c.in_ok-term.was (sym c.is_held.ensures ∙ c.if-not-is_held.false))
