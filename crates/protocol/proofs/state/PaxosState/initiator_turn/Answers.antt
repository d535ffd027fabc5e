-- `protocol::turns::PaxosState::initiator_turn` meets its contract.
-- Assumes nothing.
use Rattle.std.specs.Prelude.{Option}
use Rattle.std.specs.Bool.{then_some}
use Rattle.std.specs.Option.{unwrap_or}
use Prim.Native.Nat.{ℕ, ◌-◌, ◌≤◌}
use mathlib.Core.Bool.{Bool, true, false}
use mathlib.Core.Path.{◌≡◌, refl, ap, ap₂, subst⁻¹, ◌∙◌}
use native.Mathlib.Omega.{arith}
use Rattle.network.specs.declared.units.Term.{Term}
use Rattle.config.specs.Limits.{max_terms}
use Rattle.protocol.specs.declared.state.PaxosState.{PaxosState}
use Rattle.protocol.specs.Paxos.{detect_gap}
use Rattle.protocol.specs.Turns.{nack, counter_after, current_term_of, proposal_data_of, propose, with_proposal, announce, initiator_turn}
use Rattle.protocol.specs.View.{view, Kept, last_below, may_propose}
use Rattle.protocol.proofs.Kept.{kept_mono}
use Rattle.protocol.proofs.Chains.{counter_more, may_propose_new, proposed_below, proposed_is, initiates}
use Rattle.protocol.proofs.state.PaxosState.initiator_turn.Goals as goal

data_is : (b : Bool) (c : ℕ) → then_some b (record { 0 = c }) ≡ proposal_data_of b c
data_is true c = refl
data_is false c = refl

current_is : (b : Bool) (c : ℕ) → (unwrap_or (proposal_data_of b c) (record { 0 = c - 1 })).0 ≡ current_term_of b c
current_is true c = refl
current_is false c = refl

-- what the state is kept below after the proposal, which is p
proposed_kept : (b : Bool) (c : ℕ) (p : Option Term) (s s' : PaxosState) → p ≡ proposal_data_of b c →
    ((k : ℕ) → last_below k p → Kept k s → Kept k s') → counter_after b c ≤ max_terms → Kept c s → Kept (counter_after b c) s'
proposed_kept b c p s s' e kept room k = kept (counter_after b c) (rw e (proposed_below b c)) (kept_mono (counter_more b c) room k)

pub detect_gap-requires : goal.detect_gap-requires
detect_gap-requires c = let k = c.requires.kept in (kept_mono k.room (omega arith) k, k.room)

pub propose-requires : goal.propose-requires
propose-requires c =
    let a = c.args in (
      subst⁻¹ (λ (p : Option Term). may_propose p a.self.now) (c.then_some-proposal.ensures ∙ data_is a.proposes a.counter) (may_propose_new a.proposes a.counter c.requires.kept c.requires.few),
      c.requires.node,
    )

pub announce-requires : goal.announce-requires
announce-requires c =
    let a = c.args in (
      kept_mono c.requires.few (omega arith)
          (proposed_kept a.proposes a.counter _ _ _ (c.then_some-proposal.ensures ∙ data_is a.proposes a.counter) c.propose.ensures.kept c.requires.few c.requires.kept),
      c.requires.node,
      c.requires.nodes,
    )

pub returns : goal.returns
unfolding initiator_turn
returns c =
    let a = c.args in
    let x = view a.self.now in
    let nack_is : c.nack_of-nack.result ≡ nack (detect_gap a.counter x) = c.nack_of-nack.ensures ∙ ap nack c.detect_gap.ensures in
    let proposal_is : c.then_some-proposal.result ≡ proposal_data_of a.proposes a.counter = c.then_some-proposal.ensures ∙ data_is a.proposes a.counter in
    let term_is : c.unwrap_or-current.result.0 ≡ current_term_of a.proposes a.counter =
    ap (λ (t : Term). t.0) c.unwrap_or-current.ensures ∙
    ap₂ (λ (p : Option Term) (k : ℕ). (unwrap_or p (record { 0 = k })).0) proposal_is c.saturating_sub.ensures ∙
    current_is a.proposes a.counter in
    let state_is : view c.propose.new.self ≡ propose a.proposes a.node.0 a.counter x =
    c.propose.ensures.is ∙ ap (λ (p : Option Term). with_proposal p a.node.0 x) proposal_is ∙ proposed_is a.proposes a.node.0 a.counter x in
    let e = c.announce.ensures in
    initiates a.node.0 a.n a.counter a.proposes a.piggyback a.self.now _ c.announce.result _ c.requires.few
    (e.next.kept (counter_after a.proposes a.counter) tt (proposed_kept a.proposes a.counter _ _ _ proposal_is c.propose.ensures.kept c.requires.few c.requires.kept))
    (λ i. announce a.node.0 a.n (term_is i) (nack_is i) (proposal_is i) a.piggyback (state_is i))
    e.next.is e.packet e.newly
