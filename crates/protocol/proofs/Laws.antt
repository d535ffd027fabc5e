-- Laws of the turns, for those who use them: what every turn keeps. A turn is made of three kinds of steps, a commit
-- of a term, a term that becomes pending, and a merge of votes, so a law is proved of these and holds of both turns.
-- Assumes nothing.
use Prim.Native.Nat.{ℕ, zero, suc}
use Rattle.std.specs.Prelude.{Option, Some, None}
use mathlib.Core.Bool.{Bool, true, false, cond, ◌||◌, true≢false, or-false, or-true}
use mathlib.Core.List.{List, [], ◌∷◌, ◌++◌, append-nil}
use mathlib.Core.Logic.{◌⊎◌, inl, inr}
use mathlib.Core.Path.{◌≡◌, refl, sym, ap, ◌∙◌}
use native.Mathlib.Omega.{arith}
use borrow.Author.Tests.{eqb-true, eq-eqb, ne_eqb}
use lib.Dec.{eqb, leb}
use Rattle.network.specs.declared.units.Term.{Term}
use Rattle.phy.specs.declared.packet.Piggyback.{Piggyback}
use Rattle.phy.specs.declared.packet.Packet.{Packet}
use Rattle.protocol.specs.Paxos.{LogEntry, Pending, State, logged, held, is_some, updated, hold, hold_new, voted, union, vote, merge_votes_up_to, log_entry, raise, commit_term, commit_below, commit_to}
use Rattle.protocol.specs.Turns.{propose, quorum_term, announce, initiator_turn, take_data, take_votes, take_piggyback, participant_turn}
use Rattle.protocol.specs.View.{Distinct}
use Rattle.protocol.specs.Growth.{Extends, Rises, StaysPending, Apart, data_for, own_pending, own_log, Own}
use Rattle.protocol.proofs.Places.{same_or, either}
use Rattle.protocol.proofs.Logs.{logged_append, distinct_append, or_left_false}
use Rattle.protocol.proofs.Sets.{union_bit}
use Rattle.protocol.proofs.Commit.{one_logged}
use Rattle.protocol.proofs.Growing.{by_log, extends_trans, extends_logged, term_extends, rises_trans, term_rises}

-- ---- what the steps keep, the turns keep

-- Q is kept by each kind of step; D is what it asks of the data of a term that becomes pending, F of the votes that it gets then or later.
pub record Keeps (D : ℕ → Option Term → Type 0) (F : ℕ → Type 0) (Q : State → Type 0) : Type 0 where
  pub commits : (t : ℕ) (s : State) → Q s → Q (commit_term t s)
  pub holds : (t v : ℕ) (d : Option Term) (s : State) → held t s ≡ false → D t d → F v → Q s → Q (hold t v d s)
  pub merges : (u f : ℕ) (s : State) → F f → Q s → Q (merge_votes_up_to u f s)

abbrev pub AskData : (ℕ → Option Term → Type 0) → ℕ → Option Term → Type 0
AskData D t None = Unit {0}
AskData D t (Some u) = D t (Some u)

abbrev pub AskBack : (ℕ → Option Term → Type 0) → Option Piggyback → Type 0
AskBack D None = Unit {0}
AskBack D (Some again) = D again.term.0 again.«data»

module _ (D : ℕ → Option Term → Type 0) (F : ℕ → Type 0) (Q : State → Type 0) (k : Keeps D F Q) where
  below_keeps : (n : ℕ) (s : State) → Q s → Q (commit_below n s)
  unfolding commit_below
  below_keeps zero s q = q
  below_keeps (suc n) s q = k.commits n (commit_below n s) (below_keeps n s q)

  to_keeps : (l : Option Term) (s : State) → Q s → Q (commit_to l s)
  unfolding commit_to
  to_keeps None s q = q
  to_keeps (Some u) s q = below_keeps (suc u.0) s q

  new_keeps : (t v : ℕ) (d : Option Term) (s : State) → D t d → F v → Q s → Q (hold_new t v d s)
  unfolding hold_new
  new_keeps t v d s a w q = go (held t s) refl
    where
      go : (b : Bool) → held t s ≡ b → Q (cond b s (hold t v d s))
      go true e = q
      go false e = k.holds t v d s e a w q

  data_keeps : (t v : ℕ) (d : Option Term) (s : State) → AskData D t d → F v → Q s → Q (take_data t v d s)
  unfolding take_data
  data_keeps t v None s a w q = q
  data_keeps t v (Some u) s a w q = new_keeps t v (Some u) s a w q

  back_keeps : (v : ℕ) (pb : Option Piggyback) (s : State) → AskBack D pb → F v → Q s → Q (take_piggyback v pb s)
  unfolding take_piggyback
  back_keeps v None s a w q = q
  back_keeps v (Some again) s a w q = new_keeps again.term.0 v again.«data» s a w q

  module _ (i : ℕ) (own : F (vote i)) where
    pub votes_keeps : (p : Packet) (s : State) → F p.flags_bitmap → AskData D p.current_term.0 p.proposal_data → Q s → Q (take_votes i p s)
    unfolding take_votes
    votes_keeps p s w a q =
        k.merges p.current_term.0 (vote i) _ own
        (k.merges p.current_term.0 p.flags_bitmap _ w
        (data_keeps p.current_term.0 p.flags_bitmap p.proposal_data _ a w
        (to_keeps p.last_accepted_term s q)))

    pub participant_keeps : (p : Packet) (s : State) → F p.flags_bitmap → AskData D p.current_term.0 p.proposal_data →
        AskBack D p.piggyback → Q s → Q (participant_turn i p s).state
    unfolding participant_turn
    participant_keeps p s w a b q = back_keeps (vote i) p.piggyback (take_votes i p s) b own (votes_keeps p s w a q)

    propose_keeps : (b : Bool) (c : ℕ) (s : State) → held c s ≡ false → (b ≡ true → D c (data_for c)) → Q s → Q (propose b i c s)
    propose_keeps true c s e a q = k.holds c (vote i) (data_for c) s e (a refl) own q
    propose_keeps false c s e a q = q

    -- the term of the counter is held by no node before it is proposed
    pub initiator_keeps : (n c : ℕ) (b : Bool) (pb : Option Piggyback) (s : State) → held c s ≡ false → (b ≡ true → D c (data_for c)) → Q s →
        Q (initiator_turn i n c b pb s).state
    unfolding initiator_turn announce
    initiator_keeps n c b pb s e a q = to_keeps (quorum_term n (propose b i c s)) (propose b i c s) (propose_keeps b c s e a q)

-- ---- a turn never removes a term from a log or reorders it

abbrev pub AnyData : ℕ → Option Term → Type 0
AnyData t d = Unit {0}

abbrev pub AnyVotes : ℕ → Type 0
AnyVotes v = Unit {0}

pub log_extends : (l : List LogEntry) → Keeps AnyData AnyVotes (λ s. Extends l s.log)
unfolding hold merge_votes_up_to
log_extends l =
    record {
      commits = λ t s q. extends_trans l s.log (commit_term t s).log q (term_extends t s);
      holds = λ t v d s e a w q. q;
      merges = λ u f s w q. q;
    }

-- ---- last accepted never falls

pub last_rises : (l : Option Term) → Keeps AnyData AnyVotes (λ s. Rises l s.last)
unfolding hold merge_votes_up_to
last_rises l =
    record {
      commits = λ t s q. rises_trans l s.last (commit_term t s).last q (term_rises t s);
      holds = λ t v d s e a w q. q;
      merges = λ u f s w q. q;
    }

-- ---- votes only grow while pending

held_stands : (t : ℕ) (p : Pending) (s : State) → StaysPending t p s → held t s ≡ true
held_stands t p s (inl w) = ap (λ (o : Option Pending). logged t s.log || is_some o) w.1 ∙ or-true (logged t s.log)
held_stands t p s (inr w) = ap (λ (b : Bool). b || is_some (s.pending t)) w.0

entry_logged : (t : ℕ) (q : Pending) → logged t (log_entry t (Some q)) ≡ true
unfolding logged
entry_logged t q = ap (λ (b : Bool). b || false) (eq-eqb t t refl)

pub votes_stand : (t : ℕ) (p : Pending) → Keeps AnyData AnyVotes (StaysPending t p)
unfolding hold merge_votes_up_to
votes_stand t p =
    record {
      commits = λ u s q. by_log (StaysPending t p) u s (λ e. q) (λ e. entered u s (either (eqb t u)) q);
      holds = λ u v d s e a w q.
          let other = ne_eqb t u (λ g. true≢false (sym (held_stands t p s q) ∙ ap (λ (j : ℕ). held j s) g ∙ e)) in
          holding u v d s other q;
      merges = λ u f s w q. merging u f s (leb t u) refl q;
    }
  where
    entered : (u : ℕ) (s : State) → (eqb t u ≡ true) ⊎ (eqb t u ≡ false) → StaysPending t p s →
        StaysPending t p (record { log = s.log ++ log_entry u (s.pending u); pending = updated u None s.pending; last = raise u s.last })
    entered u s (inl e) (inl w) =
        inr (
          logged_append t s.log (log_entry u (s.pending u)) ∙
              ap (λ (b : Bool). logged t s.log || b)
              (ap (λ (j : ℕ). logged t (log_entry j (s.pending j))) (sym (eqb-true t u e)) ∙
              ap (λ (o : Option Pending). logged t (log_entry t o)) w.1 ∙ entry_logged t w.0) ∙
              or-true (logged t s.log),
          ap (λ (b : Bool). cond b None (s.pending t)) e,
        )
    entered u s (inr e) (inl w) = inl (w.0, ap (λ (b : Bool). cond b None (s.pending t)) e ∙ w.1, w.2, w.3)
    entered u s (inl e) (inr w) =
        inr (
          extends_logged t s.log (s.log ++ log_entry u (s.pending u)) (log_entry u (s.pending u), refl) w.0,
          ap (λ (b : Bool). cond b None (s.pending t)) e,
        )
    entered u s (inr e) (inr w) =
        inr (
          extends_logged t s.log (s.log ++ log_entry u (s.pending u)) (log_entry u (s.pending u), refl) w.0,
          ap (λ (b : Bool). cond b None (s.pending t)) e ∙ w.1,
        )

    holding : (u v : ℕ) (d : Option Term) (s : State) → eqb t u ≡ false → StaysPending t p s → StaysPending t p (hold u v d s)
    holding u v d s e (inl w) = inl (w.0, ap (λ (b : Bool). cond b (Some (record { votes = v; «data» = d })) (s.pending t)) e ∙ w.1, w.2, w.3)
    holding u v d s e (inr w) = inr (w.0, ap (λ (b : Bool). cond b (Some (record { votes = v; «data» = d })) (s.pending t)) e ∙ w.1)

    merging : (u f : ℕ) (s : State) (b : Bool) → leb t u ≡ b → StaysPending t p s → StaysPending t p (merge_votes_up_to u f s)
    merging u f s true e (inl w) =
        inl (
          record { votes = union w.0.votes f; «data» = w.0.«data» },
          rw (e, w.1),
          (λ i h. rw (union_bit i w.0.votes f h) (omega (arith, w.2 i h))),
          w.3,
        )
    merging u f s false e (inl w) = inl (w.0, rw (e, w.1), w.2, w.3)
    merging u f s b e (inr w) = inr (w.0, rw w.1)

-- ---- no log repeats a term, and no term is both logged and pending

pub kept_apart : Keeps AnyData AnyVotes Apart
unfolding hold merge_votes_up_to
kept_apart =
    record {
      commits = λ t s q. by_log Apart t s (λ e. q)
          (λ e. record { distinct = entering t s.log (s.pending t) e q.distinct; apart = λ j h. entered t s q j h (either (eqb j t)) });
      holds = λ t v d s e a w q. record { distinct = q.distinct; apart = λ j h. holding t v d s e q j h (either (eqb j t)) };
      merges = λ u f s w q. record { distinct = q.distinct; apart = λ j h. ap (voted (leb j u) f) (q.apart j h) };
    }
  where
    entering : (t : ℕ) (l : List LogEntry) (o : Option Pending) → logged t l ≡ false → Distinct l → Distinct (l ++ log_entry t o)
    entering t l None e d = rw (append-nil l) d
    entering t l (Some p) e d = distinct_append l (record { term = t; «data» = p.«data» }) d e

    entered : (t : ℕ) (s : State) → Apart s → (j : ℕ) → logged j (s.log ++ log_entry t (s.pending t)) ≡ true →
        (eqb j t ≡ true) ⊎ (eqb j t ≡ false) → updated t None s.pending j ≡ None
    entered t s q j h (inl e) = ap (λ (b : Bool). cond b None (s.pending j)) e
    entered t s q j h (inr e) =
        ap (λ (b : Bool). cond b None (s.pending j)) e ∙
        q.apart j
        (sym (or-false (logged j s.log)) ∙
        ap (λ (b : Bool). logged j s.log || b) (sym (one_logged j t (s.pending t) e)) ∙
        sym (logged_append j s.log (log_entry t (s.pending t))) ∙ h)

    holding : (t v : ℕ) (d : Option Term) (s : State) → held t s ≡ false → Apart s → (j : ℕ) → logged j s.log ≡ true →
        (eqb j t ≡ true) ⊎ (eqb j t ≡ false) → updated t (Some (record { votes = v; «data» = d })) s.pending j ≡ None
    holding t v d s e q j h (inl w) =
        absurd (true≢false (sym h ∙ ap (λ (i : ℕ). logged i s.log) (eqb-true j t w) ∙ or_left_false (logged t s.log) (is_some (s.pending t)) e))
    holding t v d s e q j h (inr w) =
        ap (λ (b : Bool). cond b (Some (record { votes = v; «data» = d })) (s.pending j)) w ∙ q.apart j h

-- ---- every logged or pending term carries its own data, if the packet's do

abbrev pub OwnD : ℕ → Option Term → Type 0
OwnD t d = d ≡ data_for t

pub kept_own : Keeps OwnD AnyVotes Own
unfolding hold merge_votes_up_to own_log
kept_own =
    record {
      commits = λ t s q. by_log Own t s (λ e. q)
          (λ e. record {
            log = entering t (s.pending t) s.log (q.pending t) q.log;
            pending = λ j. same_or (λ (b : Bool). own_pending j (cond b None (s.pending j))) j t (λ g. tt) (λ g. q.pending j);
          });
      holds = λ t v d s e a w q.
          record {
            log = q.log;
            pending = λ j. same_or (λ (b : Bool). own_pending j (cond b (Some (record { votes = v; «data» = d })) (s.pending j))) j t
                (λ g. a ∙ ap data_for (sym g)) (λ g. q.pending j);
          };
      merges = λ u f s w q. record { log = q.log; pending = λ j. voting j (leb j u) f (s.pending j) (q.pending j) };
    }
  where
    entering : (t : ℕ) (o : Option Pending) (l : List LogEntry) → own_pending t o → own_log l → own_log (l ++ log_entry t o)
    entering t None [] p q = tt
    entering t (Some o) [] p q = (p, tt)
    entering t o (e ∷ l) p q = (q.0, entering t o l p q.1)

    voting : (j : ℕ) (b : Bool) (f : ℕ) (o : Option Pending) → own_pending j o → own_pending j (voted b f o)
    voting j b f None p = tt
    voting j true f (Some o) p = p
    voting j false f (Some o) p = p
