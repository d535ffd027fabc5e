-- `protocol::turns::PaxosState::announce` meets its contract: the callees' answers, put together field by field.
-- Assumes nothing.
use Rattle.std.specs.Prelude.{Option}
use mathlib.Core.Path.{◌≡◌, ap, ap₂, ◌∙◌}
use Rattle.network.specs.declared.units.Term.{Term}
use Rattle.protocol.specs.Paxos.{State, commit_to, newly_to, term_set, union, vote}
use Rattle.protocol.specs.Turns.{votes_of, quorum_term, announce}
use Rattle.protocol.specs.View.{view, log_of}
use Rattle.protocol.proofs.Chains.{quorum_below}
use Rattle.protocol.proofs.state.PaxosState.announce.Goals as goal

pub commit_to-newly-requires : goal.commit_to-newly-requires
commit_to-newly-requires c = (c.requires.0, rw c.greatest_quorum.ensures (quorum_below 64 c.args.n c.requires.0))

pub votes_of-requires : goal.votes_of-requires
votes_of-requires c = c.commit_to-newly.ensures.next.kept 64 (rw c.greatest_quorum.ensures (quorum_below 64 c.args.n c.requires.0)) c.requires.0

pub returns : goal.returns
unfolding announce
returns c =
    let a = c.args in
    let x = view a.self.now in
    let e = c.greatest_quorum.ensures in
    let n = c.commit_to-newly.ensures.next in
    let is : view c.commit_to-newly.new.self ≡ commit_to (quorum_term a.n x) x =
    n.is ∙ ap (λ (l : Option Term). commit_to l x) e in
    let last : c.commit_to-newly.new.self.last_accepted ≡ (commit_to (quorum_term a.n x) x).last = ap (λ (y : State). y.last) is in
    let flags : c.union_of.result ≡ union (votes_of ((commit_to (quorum_term a.n x) x).pending a.current.0)) (vote a.node.0) =
    c.union_of.ensures ∙
    ap₂ union
    (c.votes_of.ensures ∙ ap (λ (y : State). votes_of (y.pending a.current.0)) is)
    c.vote_of.ensures in
    record {
      next = record { kept = λ k u h. n.kept k (rw e (quorum_below 64 a.n h)) h; is = is };
      packet = λ j.
          record {
            current_term = a.current;
            last_accepted_term = last j;
            flags_bitmap = flags j;
            nack_term = a.nack;
            sender = a.node;
            proposal_data = a.«data»;
            piggyback = a.piggyback;
          };
      newly = c.commit_to-newly.ensures.newly ∙ ap (λ (l : Option Term). term_set (newly_to l (log_of a.self.now))) e;
    }
