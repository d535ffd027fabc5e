-- The turns' steps put together. Assumes nothing.
use Rattle.std.specs.Prelude.{Option, Some, None}
use Prim.Native.Nat.{ℕ, zero, suc, ◌≤◌}
use mathlib.Core.Bool.{Bool, true, false, cond, ◌||◌, true≢false}
use mathlib.Core.Logic.{⊎_elim}
use mathlib.Core.Path.{◌≡◌, refl, sym, ap, ◌∙◌, subst}
use native.Mathlib.Nat.{le_trans, le_refl}
use native.Mathlib.Omega.{arith}
use borrow.Author.Tests.{leb-true, leb-false}
use lib.Dec.{leb}
use Rattle.config.specs.Limits.{max_terms}
use Rattle.network.specs.Graph.{has}
use Rattle.network.specs.declared.units.Term.{Term}
use Rattle.phy.specs.declared.packet.Piggyback.{Piggyback}
use Rattle.phy.specs.declared.packet.Packet.{Packet}
use Rattle.protocol.specs.declared.state.PaxosState.{PaxosState}
use Rattle.protocol.specs.declared.turns.Announced.{Announced}
use Rattle.protocol.specs.Paxos.{Pending, State, held, union, voted, merge_votes_up_to, quorum, greatest_quorum, recovery, term_set}
use Rattle.protocol.specs.Turns.{Initiated, counter_after, current_term_of, proposal_data_of, propose, with_proposal, announce, initiator_turn}
use Rattle.protocol.specs.View.{data_at, pending_of, view, last_below, data_below, may_propose, proposal_below, back_below, Kept, Next, TermsBelow, Initiates}
use Rattle.protocol.proofs.Places.{either}
use Rattle.protocol.proofs.Sets.{union_assoc}
use Rattle.protocol.proofs.Kept.{state_is, kept_mono, last_mono, pending_none, held_is, held_free}
use Rattle.protocol.proofs.Steps.{recovery_view}

-- two steps, one after the other
pub next_then : {P Q R : ℕ → Type 0} {s s' s'' : PaxosState} {x : State} (f : State → State) →
    ((c : ℕ) → R c → P c) → ((c : ℕ) → R c → Q c) → Next P s s' x → Next Q s' s'' (f (view s')) → Next R s s'' (f x)
next_then f p q m n = record { kept = λ c h k. n.kept c (q c h) (m.kept c (p c h) k); is = n.is ∙ ap f m.is }

-- ---- two merges are one, of the union

voted_twice : (b : Bool) (f g : ℕ) (o : Option Pending) → voted b g (voted b f o) ≡ voted b (union f g) o
voted_twice b f g None = refl
voted_twice true f g (Some p) = ap (λ (v : ℕ). Some (record { votes = v; «data» = p.«data» })) (union_assoc p.votes f g)
voted_twice false f g (Some p) = refl

pub merge_twice : (u f g : ℕ) (s : State) → merge_votes_up_to u g (merge_votes_up_to u f s) ≡ merge_votes_up_to u (union f g) s
unfolding merge_votes_up_to
merge_twice u f g s = state_is refl (λ t. voted_twice (leb t u) f g (s.pending t)) refl

-- ---- what a state keeps below the counter

-- a term with a quorum is pending, so it is below the counter
pub quorum_below : {c : ℕ} {s : PaxosState} (k n : ℕ) → Kept c s → last_below c (greatest_quorum k n (view s))
unfolding greatest_quorum
quorum_below zero n kept = tt
quorum_below {c} {s} (suc k) n kept = go (quorum n (pending_of s k)) refl (quorum_below k n kept)
  where
    go : (x : Bool) → quorum n (pending_of s k) ≡ x → last_below c (greatest_quorum k n (view s)) → last_below c (cond x (Some (record { 0 = k })) (greatest_quorum k n (view s)))
    go true e h =
        ⊎_elim
        (λ w. absurd (true≢false (sym e ∙ ap (quorum n) (pending_none s k (kept.pending_below k (leb-true c k w))))))
        (λ w. leb-false c k w)
        (either (leb c k))
    go false e h = h

-- a held term's data has a number
held_data : {c : ℕ} {s : PaxosState} (t : ℕ) → Kept c s → held t (view s) ≡ true → data_below (data_at s t)
held_data {c} {s} t kept e = go (has s.logged t) (has s.pending t) refl refl (sym (held_is kept t) ∙ e)
  where
    go : (x y : Bool) → has s.logged t ≡ x → has s.pending t ≡ y → (x || y) ≡ true → data_below (data_at s t)
    go true y l p h = kept.logged_data t l
    go false true l p h = kept.pending_data t p
    go false false l p h = absurd (true≢false (sym h))

-- a term that can be recovered is held, so it is below the counter
pub recovery_below : {c : ℕ} {s : PaxosState} (n : Option Term) → Kept c s → back_below c (recovery n (view s))
unfolding recovery
recovery_below None kept = tt
recovery_below {c} {s} (Some u) kept = rw (recovery_view s u) (go (held u.0 (view s)) refl)
  where
    go : (x : Bool) → held u.0 (view s) ≡ x → back_below c (cond x (Some (record { term = u; «data» = (data_at s u.0) })) None)
    go true e = (
      ⊎_elim
          (λ w. absurd (true≢false (sym e ∙ held_free kept u.0 (leb-true c u.0 w))))
          (λ w. leb-false c u.0 w)
          (either (leb c u.0)),
      held_data u.0 kept e,
    )
    go false e = tt

-- ---- terms below a counter are below a greater one

pub back_mono : {c d : ℕ} (pb : Option Piggyback) → c ≤ d → back_below c pb → back_below d pb
back_mono None h k = tt
back_mono (Some again) h k = (le_trans k.0 h, k.1)

proposal_mono : {c d : ℕ} (t : ℕ) (x : Option Term) → c ≤ d → proposal_below c t x → proposal_below d t x
proposal_mono t None h k = tt
proposal_mono t (Some u) h k = (le_trans k.0 h, k.1)

pub terms_mono : {c d : ℕ} {p : Packet} → c ≤ d → TermsBelow c p → TermsBelow d p
terms_mono {c} {d} {p} h k =
    record {
      last = last_mono p.last_accepted_term h k.last;
      proposal = proposal_mono p.current_term.0 p.proposal_data h k.proposal;
      back = back_mono p.piggyback h k.back;
    }

-- ---- the initiator's packet

pub counter_more : (b : Bool) (c : ℕ) → c ≤ counter_after b c
counter_more true c = omega arith
counter_more false c = le_refl c

pub proposal_below_lem : (b : Bool) (c : ℕ) → counter_after b c ≤ max_terms → proposal_below (counter_after b c) (current_term_of b c) (proposal_data_of b c)
proposal_below_lem true c h = (omega arith, omega arith)
proposal_below_lem false c h = tt

pub may_propose_new : {s : PaxosState} (b : Bool) (c : ℕ) → Kept c s → counter_after b c ≤ max_terms → may_propose (proposal_data_of b c) s
may_propose_new true c k room =
    record { kept = kept_mono k.room (omega arith) k; term = omega arith; «data» = omega arith; free = held_free k c (le_refl c) }
may_propose_new false c k room = tt

pub proposed_below : (b : Bool) (c : ℕ) → last_below (counter_after b c) (proposal_data_of b c)
proposed_below true c = omega arith
proposed_below false c = tt

pub proposed_is : (b : Bool) (i c : ℕ) (s : State) → with_proposal (proposal_data_of b c) i s ≡ propose b i c s
proposed_is true i c s = refl
proposed_is false i c s = refl

-- the terms of the initiator's packet are below the counter
pub packet_below : (i n c : ℕ) (b : Bool) (pb : Option Piggyback) (s : State) → counter_after b c ≤ max_terms →
    last_below (counter_after b c) (initiator_turn i n c b pb s).state.last → back_below c pb →
    TermsBelow (counter_after b c) (initiator_turn i n c b pb s).packet
unfolding initiator_turn announce
packet_below i n c b pb s h l k =
    record { last = l; proposal = proposal_below_lem b c h; back = back_mono pb (counter_more b c) k }

pub initiates : (i n c : ℕ) (p : Bool) (pb : Option Piggyback) (s s' : PaxosState) (r : Announced) (y : Initiated) →
    counter_after p c ≤ max_terms → Kept (counter_after p c) s' → y ≡ initiator_turn i n c p pb (view s) →
    view s' ≡ y.state → r.packet ≡ y.packet → r.newly ≡ term_set y.newly → Initiates i n c p pb s r s'
initiates i n c p pb s s' r y h kept e st pk nw =
    let x = view s in
    let now : view s' ≡ (initiator_turn i n c p pb x).state = st ∙ ap (λ (z : Initiated). z.state) e in
    let sent : r.packet ≡ (initiator_turn i n c p pb x).packet = pk ∙ ap (λ (z : Initiated). z.packet) e in
    record {
      kept = kept;
      state = now;
      packet = sent;
      newly = nw ∙ ap (λ (z : Initiated). term_set z.newly) e;
      below = λ k.
          subst (TermsBelow (counter_after p c)) (sym sent)
          (packet_below i n c p pb x h (subst (λ (z : State). last_below (counter_after p c) z.last) now kept.last_below) k);
    }
