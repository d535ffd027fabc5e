-- The laws of the two turns, by name. For the initiator, the term of the counter is not held before its turn
-- (`counter_free` says so of a state that is kept). Assumes nothing.
use Rattle.std.specs.Prelude.{Option, Some, None}
use Prim.Native.Nat.{ℕ, zero, suc, ◌^◌, ◌<◌}
use mathlib.Core.Bool.{Bool, true, false, cond}
use mathlib.Core.List.{List, [], ◌∷◌, map}
use mathlib.Core.Path.{◌≡◌, refl, sym, ap, ◌∙◌}
use native.Mathlib.Nat.{le_refl}
use native.Mathlib.Omega.{arith}
use lib.Bits.{bit_or, or_lt}
use lib.Count.{ones, ones-le}
use lib.ListN.{length}
use lib.Pow.{pow-lt}
use Rattle.network.specs.Graph.{has}
use Rattle.random.specs.Table.{tabulate}
use Rattle.random.proofs.Tables.{length_tabulate}
use Rattle.network.specs.declared.units.Term.{Term}
use Rattle.phy.specs.declared.packet.Piggyback.{Piggyback}
use Rattle.phy.specs.declared.packet.Packet.{Packet}
use Rattle.protocol.specs.declared.state.PaxosState.{PaxosState}
use Rattle.protocol.specs.Paxos.{LogEntry, Pending, State, logged, held, find, data_in, reply, recovery}
use Rattle.protocol.specs.Turns.{current_term_of, proposal_data_of, announce, initiator_turn, take_votes, participant_turn}
use Rattle.protocol.specs.View.{term_at, entry_at, log_of, view, Kept}
use Rattle.protocol.specs.Growth.{Extends, Rises, StaysPending, Apart, data_for, own_pending, own_log, Own, own_data, own_back, OwnPacket}
use Rattle.protocol.proofs.Places.{same_or}
use Rattle.protocol.proofs.Words.{in_word, ones_with}
use Rattle.protocol.proofs.Kept.{logged_word, pending_none, held_free}
use Rattle.protocol.proofs.Growing.{extends_refl, rises_refl}
use Rattle.protocol.proofs.Laws.{Keeps, AskData, AskBack, AnyData, AnyVotes, OwnD, participant_keeps, votes_keeps, initiator_keeps, log_extends, last_rises, votes_stand, kept_apart, kept_own}

-- ---- what a kept state says

pub counter_free : {c : ℕ} {s : PaxosState} → Kept c s → held c (view s) ≡ false
counter_free {c} k = held_free k c (le_refl c)

pub view_apart : {c : ℕ} {s : PaxosState} → Kept c s → Apart (view s)
view_apart {c} {s} k =
    record {
      distinct = k.distinct;
      apart = λ t h. pending_none s t (k.apart t (sym (k.logged_is t) ∙ h));
    }

-- the terms of the log stand in its places
pub log_terms_lem : (s : PaxosState) → map (λ e. e.term) (view s).log ≡ tabulate (ones s.logged) (term_at s)
unfolding log_of tabulate
log_terms_lem s = go (ones s.logged) (entry_at s)
  where
    go : (n : ℕ) (f : ℕ → LogEntry) → map (λ e. e.term) (tabulate n f) ≡ tabulate n (λ (k : ℕ). (f k).term)
    go zero f = refl
    go (suc n) f = ap (λ (m : List ℕ). (f zero).term ∷ m) (go n (λ (k : ℕ). f (suc k)))

pub log_count : (s : PaxosState) → length (view s).log ≡ ones s.logged
unfolding log_of
log_count s = length_tabulate (ones s.logged) (entry_at s)

-- a log as long as the counter holds every term below it
pub log_full : {c : ℕ} {s : PaxosState} → Kept c s → ones s.logged ≡ c → (t : ℕ) → t < c → logged t (view s).log ≡ true
log_full {c} {s} k e t h = k.logged_is t ∙ go (has s.logged t) refl
  where
    go : (x : Bool) → has s.logged t ≡ x → x ≡ true
    go true q = refl
    go false q =
        absurd
        (omega (
          arith,
          ones_with s.logged t (logged_word k) (omega (arith, k.room)) q,
          ones-le c (bit_or s.logged (2 ^ t)) (or_lt c s.logged (2 ^ t) (in_word c s.logged k.logged_below) (pow-lt h)),
        ))

-- ---- a participant's turn

pub any_data : (t : ℕ) (d : Option Term) → AskData AnyData t d
any_data t None = tt
any_data t (Some u) = tt

pub any_back : (pb : Option Piggyback) → AskBack AnyData pb
any_back None = tt
any_back (Some again) = tt

module _ (i : ℕ) (p : Packet) (s : State) where
  kept : (Q : State → Type 0) → Keeps AnyData AnyVotes Q → Q s → Q (participant_turn i p s).state
  kept Q k q =
      participant_keeps AnyData AnyVotes Q k i tt p s tt (any_data p.current_term.0 p.proposal_data) (any_back p.piggyback) q

  pub participant_log : Extends s.log (participant_turn i p s).state.log
  participant_log = kept (λ x. Extends s.log x.log) (log_extends s.log) (extends_refl s.log)

  pub participant_last : Rises s.last (participant_turn i p s).state.last
  participant_last = kept (λ x. Rises s.last x.last) (last_rises s.last) (rises_refl s.last)

  pub participant_votes : (t : ℕ) (o : Pending) → StaysPending t o s → StaysPending t o (participant_turn i p s).state
  participant_votes t o h = kept (StaysPending t o) (votes_stand t o) h

  pub participant_apart : Apart s → Apart (participant_turn i p s).state
  participant_apart = kept Apart kept_apart

-- ---- the initiator's turn

module _ (i n c : ℕ) (b : Bool) (pb : Option Piggyback) (s : State) (free : held c s ≡ false) where
  made : (Q : State → Type 0) → Keeps AnyData AnyVotes Q → Q s → Q (initiator_turn i n c b pb s).state
  made Q k q = initiator_keeps AnyData AnyVotes Q k i tt n c b pb s free (λ _. tt) q

  pub initiator_log : Extends s.log (initiator_turn i n c b pb s).state.log
  initiator_log = made (λ x. Extends s.log x.log) (log_extends s.log) (extends_refl s.log)

  pub initiator_last : Rises s.last (initiator_turn i n c b pb s).state.last
  initiator_last = made (λ x. Rises s.last x.last) (last_rises s.last) (rises_refl s.last)

  pub initiator_votes : (t : ℕ) (o : Pending) → StaysPending t o s → StaysPending t o (initiator_turn i n c b pb s).state
  initiator_votes t o h = made (StaysPending t o) (votes_stand t o) h

  pub initiator_apart : Apart s → Apart (initiator_turn i n c b pb s).state
  initiator_apart = made Apart kept_apart

  pub initiator_own : Own s → Own (initiator_turn i n c b pb s).state
  initiator_own = initiator_keeps OwnD AnyVotes Own kept_own i tt n c b pb s free (λ _. refl)

-- ---- own data in packets

ask_data : (t : ℕ) (d : Option Term) → own_data t d → AskData OwnD t d
ask_data t None h = tt
ask_data t (Some u) h = ap data_for h

ask_back : (pb : Option Piggyback) → own_back pb → AskBack OwnD pb
ask_back None h = tt
ask_back (Some again) h = h

pub participant_own : (i : ℕ) (p : Packet) (s : State) → OwnPacket p → Own s → Own (participant_turn i p s).state
participant_own i p s o h =
    participant_keeps OwnD AnyVotes Own kept_own i tt p s tt (ask_data p.current_term.0 p.proposal_data o.proposal)
    (ask_back p.piggyback o.back) h

own_found : ℕ → Option (Option Term) → Type 0
own_found t None = Unit {0}
own_found t (Some d) = d ≡ data_for t

find_own : (t : ℕ) (l : List LogEntry) → own_log l → own_found t (find t l)
unfolding find own_log own_found
find_own t [] h = tt
find_own t (e ∷ l) h =
    same_or (λ (b : Bool). own_found t (cond b (Some e.«data») (find t l))) t e.term
    (λ q. h.0 ∙ ap data_for (sym q)) (λ q. find_own t l h.1)

reply_own : (t : ℕ) (o : Option (Option Term)) (q : Option Pending) → own_found t o → own_pending t q → own_back (reply t (data_in o q))
unfolding own_found
reply_own t (Some d) q h g = h
reply_own t None None h g = tt
reply_own t None (Some p) h g = g

recovery_own : (n : Option Term) (s : State) → Own s → own_back (recovery n s)
unfolding recovery
recovery_own None s h = tt
recovery_own (Some t) s h =
    reply_own t.0 (find t.0 s.log) (s.pending t.0) (find_own t.0 s.log h.log) (h.pending t.0)

pub participant_recovered : (i : ℕ) (p : Packet) (s : State) → OwnPacket p → Own s → own_back (participant_turn i p s).recovered
unfolding participant_turn
participant_recovered i p s o h =
    recovery_own p.nack_term (take_votes i p s)
    (votes_keeps OwnD AnyVotes Own kept_own i tt p s tt (ask_data p.current_term.0 p.proposal_data o.proposal) h)

own_proposal : (b : Bool) (c : ℕ) → own_data (current_term_of b c) (proposal_data_of b c)
own_proposal true c = refl
own_proposal false c = tt

pub initiator_packet : (i n c : ℕ) (b : Bool) (pb : Option Piggyback) (s : State) → own_back pb → OwnPacket (initiator_turn i n c b pb s).packet
unfolding initiator_turn announce
initiator_packet i n c b pb s h = record { proposal = own_proposal b c; back = h }
