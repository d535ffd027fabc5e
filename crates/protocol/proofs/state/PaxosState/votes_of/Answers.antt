-- `protocol::paxos::PaxosState::votes_of` meets its contract, by cases.
-- Assumes nothing.
use mathlib.Core.Path.{sym, ap, ◌∙◌}
use Rattle.protocol.specs.Turns.{votes_of}
use Rattle.protocol.proofs.Kept.{pending_at, pending_none, pending_out}
use Rattle.protocol.proofs.state.PaxosState.votes_of.Goals as goal
use Rattle.protocol.proofs.state.PaxosState.votes_of.Goals.{then-t-ge-MAX_TERMS-via-then-t-ge-MAX_TERMS, then-t-ge-MAX_TERMS-via-else-t-ge-MAX_TERMS+then-not-has}

pub returns-then-t-ge-MAX_TERMS : goal.returns-then-t-ge-MAX_TERMS
returns-then-t-ge-MAX_TERMS c =
    let s = c.args.self.now in
    let t = c.args.term.0 in
    elim c.then-t-ge-MAX_TERMS.branch [
      | then-t-ge-MAX_TERMS-via-then-t-ge-MAX_TERMS w ↦ sym (ap votes_of (pending_out c.requires t w.if-t-ge-MAX_TERMS.true))
      | then-t-ge-MAX_TERMS-via-else-t-ge-MAX_TERMS+then-not-has w ↦ sym (ap votes_of (pending_none s t (sym w.has.ensures ∙ w.if-not-has.true)))
    ]

pub returns : goal.returns
returns c = sym (ap votes_of (pending_at c.args.self.now c.args.term.0 (sym c.has.ensures ∙ c.if-not-has.false)))
