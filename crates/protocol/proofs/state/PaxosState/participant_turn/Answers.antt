-- `protocol::turns::PaxosState::participant_turn` meets its contract: the callees' steps, one after the other.
-- Assumes nothing.
use Prim.Native.Nat.{ℕ}
use mathlib.Core.Path.{◌≡◌, sym, ap, ◌∙◌}
use Rattle.phy.specs.declared.packet.Packet.{Packet}
use Rattle.protocol.specs.declared.state.PaxosState.{PaxosState}
use Rattle.protocol.specs.Paxos.{union, vote, merge_votes_up_to, commit_to, recovery}
use Rattle.protocol.specs.Turns.{take_data, take_votes, take_piggyback, participant_turn}
use Rattle.protocol.specs.View.{view, Next, Step, TermsBelow, last_below, proposal_below}
use Rattle.protocol.proofs.Chains.{next_then, merge_twice, recovery_below}
use Rattle.protocol.proofs.state.PaxosState.participant_turn.Goals as goal

-- the state after the votes: one merge of the union is the two merges of the definition
voted : (i : ℕ) (p : Packet) (s committed took merged : PaxosState) (own seen : ℕ) → own ≡ vote i → seen ≡ union p.flags_bitmap own →
    Step (λ c. last_below c p.last_accepted_term) (commit_to p.last_accepted_term) s committed →
    Step (λ c. proposal_below c p.current_term.0 p.proposal_data) (take_data p.current_term.0 p.flags_bitmap p.proposal_data) committed took →
    Step (λ c. Unit {0}) (merge_votes_up_to p.current_term.0 seen) took merged → Next (λ k. TermsBelow k p) s merged (take_votes i p (view s))
unfolding take_votes
voted i p s committed took merged own seen own_is seen_is one two three =
    let u = p.current_term.0 in
    let f = p.flags_bitmap in
    let x = take_data u f p.proposal_data (commit_to p.last_accepted_term (view s)) in
    let n : Next (λ k. TermsBelow k p) s merged (merge_votes_up_to u seen x) =
    next_then (merge_votes_up_to u seen) (λ k h. h) (λ k h. tt)
    (next_then (take_data u f p.proposal_data) (λ k h. h.last) (λ k h. h.proposal) one two)
    three in
    record {
      kept = n.kept;
      is =
          n.is ∙
          ap (λ (v : ℕ). merge_votes_up_to u v x) (seen_is ∙ ap (union f) own_is) ∙
          sym (merge_twice u f (vote i) x);
    }

pub take_data-requires : goal.take_data-requires
take_data-requires c = (c.commit_to-newly.ensures.next.kept 64 c.requires.1.last c.requires.0, c.requires.1.proposal)

pub merge_votes_up_to-requires : goal.merge_votes_up_to-requires
merge_votes_up_to-requires c =
    c.take_data.ensures.kept 64 c.requires.1.proposal (c.commit_to-newly.ensures.next.kept 64 c.requires.1.last c.requires.0)

pub recover-recovery-requires : goal.recover-recovery-requires
recover-recovery-requires c =
    c.merge_votes_up_to.ensures.kept 64 tt (c.take_data.ensures.kept 64 c.requires.1.proposal (c.commit_to-newly.ensures.next.kept 64 c.requires.1.last c.requires.0))

pub take_piggyback-requires : goal.take_piggyback-requires
take_piggyback-requires c = (
  c.merge_votes_up_to.ensures.kept 64 tt (c.take_data.ensures.kept 64 c.requires.1.proposal (c.commit_to-newly.ensures.next.kept 64 c.requires.1.last c.requires.0)),
  c.requires.1.back,
)

pub returns : goal.returns
unfolding participant_turn
returns c =
    let own = c.vote_of-own in
    let a = c.args in
    let p = a.packet in
    let x = view a.self.now in
    let i = a.node.0 in
    let v =
    voted i p a.self.now c.commit_to-newly.new.self c.take_data.new.self c.merge_votes_up_to.new.self own.result c.union_of-seen.result own.ensures
    c.union_of-seen.ensures c.commit_to-newly.ensures.next c.take_data.ensures c.merge_votes_up_to.ensures in
    let n : Next (λ k. TermsBelow k p) a.self.now c.take_piggyback.new.self (take_piggyback own.result p.piggyback (take_votes i p x)) =
    next_then (take_piggyback own.result p.piggyback) (λ k h. h) (λ k h. h.back) v c.take_piggyback.ensures in
    record {
      kept = n.kept;
      state = n.is ∙ ap (λ (f : ℕ). take_piggyback f p.piggyback (take_votes i p x)) own.ensures;
      newly = c.commit_to-newly.ensures.newly;
      recovered = c.recover-recovery.ensures ∙ ap (recovery p.nack_term) v.is;
      back = λ k h g. rw c.recover-recovery.ensures (recovery_below p.nack_term (v.kept k h g));
    }
