-- What the nodes share between rounds: states by node, starts by term, and the terms that a commit answers. Assumes nothing.
use Rattle.std.specs.Prelude.{Option, Some, None}
use Rattle.std.specs.Bool.{then_some}
use Rattle.std.specs.Option.{is_some}
use Prim.Native.Nat.{ℕ, zero, suc, ◌+◌, ◌≤◌, ◌<◌}
use mathlib.Core.Path.{◌≡◌, refl, sym, ap, ap₂, subst, ◌∙◌}
use mathlib.Core.Bool.{Bool, true, false, cond, not, ◌&&◌}
use mathlib.Core.List.{List, [], ◌∷◌, ◌++◌, append-nil, map}
use mathlib.Core.Logic.{⊎_elim}
use native.Mathlib.Nat.{le_refl, add-zero, eq-or-lt_of_le}
use native.Mathlib.Numerals.{add-one}
use native.Mathlib.Omega.{arith}
use lib.Count.{ones}
use mir.Val.{bool_byte}
use lib.Dec.{eqb, ltb}
use lib.ListN.{length, get_or, set, take, replicate, length-set, get_or-eq_default}
use lib.Seq.{take-suc-set, get_or-take, get_or-set_other}
use Rattle.std.proofs.Common.{length-take}
use borrow.Author.Tests.{lt-ltb, le-ltb, ltb-true, ltb-false}
use Rattle.config.specs.Limits.{max_nodes, max_terms}
use Rattle.network.specs.Graph.{has}
use Rattle.network.specs.declared.units.Slot.{Slot}
use Rattle.random.specs.Table.{tabulate}
use Rattle.random.proofs.Tables.{length_tabulate, get_d_tabulate, is_tabulate}
use Rattle.network.specs.declared.units.Term.{Term}
use Rattle.phy.specs.Slot.{among}
use Rattle.phy.specs.declared.packet.Packet.{Packet}
use Rattle.phy.specs.declared.packet.Piggyback.{Piggyback}
use Rattle.phy.proofs.Attempts.{among_cong, among_skip}
use Rattle.protocol.specs.declared.state.PaxosState.{PaxosState}
use Rattle.protocol.specs.Paxos.{LogEntry, State, empty, logged, quorum, greatest_quorum, newly_below, newly_to, term_set}
use Rattle.protocol.specs.Turns.{counter_after, propose, announce, initiator_turn, participant_turn}
use Rattle.protocol.specs.View.{view, entry_at, log_of, Kept, last_below, back_below}
use Rattle.protocol.proofs.Places.{get_d_set}
use Rattle.protocol.proofs.Commit.{newly_bit}
use Rattle.protocol.proofs.Kept.{last_mono, kept_mono}
use Rattle.pipeline.specs.declared.records.History.{History}
use Rattle.pipeline.specs.declared.records.ProposalRecord.{ProposalRecord}
use Rattle.pipeline.specs.declared.records.Recorded.{Recorded}
use Rattle.pipeline.specs.Round.{Shared, recorded, state_of, one_nack, latest, one_piggyback, take_turn, turns}
use Rattle.pipeline.specs.View.{Recording, Records, with_start, Started, Starts, AllKept, Sharing, TakesTurn, no_record, record_of, records_of, starts_of, outside, state_in, states_of, shared_of, without_piggyback}
use Rattle.pipeline.proofs.Recordings.{start_set, start_count}
use Rattle.pipeline.proofs.StateTables.{table_fits}
use Rattle.pipeline.specs.declared.carry.Carry.{Carry}

pub counter_after_is : (b : Bool) (c : ℕ) → counter_after b c ≡ c + cond b 1 0
counter_after_is true c = refl
counter_after_is false c = omega arith

-- ---- states

-- what holds of a state with nothing in it holds of every node's before the first round
pub all_new : (Q : State → Type 0) → Q empty → (n j : ℕ) → Q (state_of (replicate n empty) j)
all_new Q q zero j = q
all_new Q q (suc n) zero = q
all_new Q q (suc n) (suc j) = all_new Q q n j

-- and what holds of every node's, and of a new one, holds with that in its place
pub all_set : (Q : State → Type 0) (states : List State) (i : ℕ) (s : State) → ((j : ℕ) → Q (state_of states j)) → Q s → (j : ℕ) → Q (state_of (set states i s) j)
all_set Q [] i s all q j = all j
all_set Q (x ∷ states) zero s all q zero = q
all_set Q (x ∷ states) zero s all q (suc j) = all (suc j)
all_set Q (x ∷ states) (suc i) s all q zero = all 0
all_set Q (x ∷ states) (suc i) s all q (suc j) = all_set Q states i s (λ k. all (suc k)) q j

pub state_at : (n : ℕ) (b : List PaxosState) (j : ℕ) → j < n → state_of (states_of n b) j ≡ view (state_in b j)
unfolding states_of
state_at n b j h = get_d_tabulate n (λ (k : ℕ). view (state_in b k)) j empty h

-- there is room for each node
pub in_table : {c n : ℕ} {b : List PaxosState} → AllKept c n b → n ≤ max_nodes → (j : ℕ) → j < n → j < length b
in_table {n = n} a few j h = omega (arith, a.room, table_fits n few)

pub states_set : (n : ℕ) (b : List PaxosState) (j : ℕ) (s : PaxosState) (v : State) → j < n → j < length b → view s ≡ v
    → states_of n (set b j s) ≡ set (states_of n b) j v
unfolding states_of
states_set n b j s v h room e =
    sym (is_tabulate n (λ (k : ℕ). view (state_in (set b j s) k)) empty (set (states_of n b) j v) (length-set (states_of n b) j v ∙ length_tabulate n (λ (k : ℕ). view (state_in b k)))
    (λ k l.
    get_d_set (states_of n b) j k v empty (omega (arith, length_tabulate n (λ (m : ℕ). view (state_in b m))))
    ∙ ap (cond (eqb k j) v) (state_at n b k l)
    ∙ ap (λ (x : State). cond (eqb k j) x (view (state_in b k))) (sym e)
    ∙ under (eqb k j) (state_in b k)
    ∙ ap view (sym (get_d_set b j k s outside room))))
  where
    under : (x : Bool) (q : PaxosState) → cond x (view s) (view q) ≡ view (cond x s q)
    under true q = refl
    under false q = refl

-- ---- starts

-- a start is that of the proposals made, and 0 for a term that is none
pub start_at : {c : ℕ} {h : History} → Started c h → (t : ℕ) → get_or (starts_of h) t 0 ≡ get_or (take c (starts_of h)) t 0
start_at {c} {h} s t = go (ltb t c) refl
  where
    go : (x : Bool) → ltb t c ≡ x → get_or (starts_of h) t 0 ≡ get_or (take c (starts_of h)) t 0
    go true e = sym (get_or-take c (starts_of h) t 0 (ltb-true t c e))
    go false e = s.unused t (ltb-false t c e) ∙ sym (get_or-eq_default (take c (starts_of h)) 0 (omega (arith, length-take c (starts_of h), ltb-false t c e)))

-- ---- what a commit answers

pub greatest_below : (k n : ℕ) (s : State) → last_below k (greatest_quorum k n s)
unfolding greatest_quorum
greatest_below zero n s = tt
greatest_below (suc k) n s = go (greatest_below k n s) (quorum n (s.pending k))
  where
    go : last_below k (greatest_quorum k n s) → (b : Bool) → last_below (suc k) (cond b (Some (record { 0 = k })) (greatest_quorum k n s))
    go h true = le_refl (suc k)
    go h false = last_mono (greatest_quorum k n s) (omega arith) h

-- each number below k that is not logged
newly_unlogged : (k : ℕ) (l : List LogEntry) → newly_below k l ≡ among k (λ (t : ℕ). not (logged t l))
unfolding newly_below among
newly_unlogged zero l = refl
newly_unlogged (suc k) l = ap₂ (λ (x : List ℕ) (y : List ℕ). x ++ y) (newly_unlogged k l) (go (logged k l))
  where
    go : (b : Bool) → cond b [] (k ∷ []) ≡ cond (not b) (k ∷ []) []
    go true = refl
    go false = refl

-- the set of the terms below k that are newly committed has just those
newly_has : (k t : ℕ) (l : List LogEntry) → has (term_set (newly_below k l)) t ≡ (ltb t k && not (logged t l))
unfolding has
newly_has k t l = ap (λ (x : ℕ). eqb x 1) (newly_bit k t l) ∙ go (ltb t k) (logged t l)
  where
    go : (a b : Bool) → eqb (cond a (cond b 0 1) 0) 1 ≡ (a && not b)
    go true true = refl
    go true false = refl
    go false b = refl

-- so the list is the set's
newly_list : (k : ℕ) (l : List LogEntry) → k ≤ max_terms → among max_terms (has (term_set (newly_below k l))) ≡ newly_below k l
newly_list k l h =
    among_skip k max_terms (has (term_set (newly_below k l))) h (λ i b _. newly_has k i l ∙ ap (λ (x : Bool). x && not (logged i l)) (le-ltb i k b))
    ∙ among_cong k (has (term_set (newly_below k l))) (λ (t : ℕ). not (logged t l)) (λ t b. newly_has k t l ∙ ap (λ (x : Bool). x && not (logged t l)) (lt-ltb t k b))
    ∙ sym (newly_unlogged k l)

pub newly_among : (last : Option Term) (l : List LogEntry) → last_below max_terms last → among max_terms (has (term_set (newly_to last l))) ≡ newly_to last l
unfolding newly_to newly_below
newly_among None l h = newly_list 0 l (omega arith)
newly_among (Some u) l h = newly_list (suc u.0) l h

pub initiator_newly : (i n c : ℕ) (b : Bool) (pb : Option Piggyback) (s : State) → among max_terms (has (term_set (initiator_turn i n c b pb s).newly)) ≡ (initiator_turn i n c b pb s).newly
unfolding initiator_turn announce
initiator_newly i n c b pb s = newly_among (greatest_quorum max_terms n (propose b i c s)) (propose b i c s).log (greatest_below max_terms n (propose b i c s))

pub participant_newly : (i : ℕ) (p : Packet) (s : State) → last_below max_terms p.last_accepted_term → among max_terms (has (term_set (participant_turn i p s).newly)) ≡ (participant_turn i p s).newly
unfolding participant_turn
participant_newly i p s h = newly_among p.last_accepted_term s.log h

-- ---- one start more

pub starts_one : (c : ℕ) (v : Slot) (h : History) → Started c h → c < length h.starts → Starts c true v.0 h (record { starts = set h.starts c v; records = h.records })
starts_one c v h s room =
    let l = starts_of h in
    let e = start_set h.starts c v in
    record {
      started = record {
        unused = λ t b.
            ap (λ (m : List ℕ). get_or m t 0) e ∙ get_or-set_other l c t v.0 0 (λ p. omega (arith, p)) ∙ s.unused t (omega arith);
      };
      starts =
          ap (take (c + 1)) e ∙ ap (λ (k : ℕ). take k (set l c v.0)) (add-one c) ∙ take-suc-set l c v.0 (omega (arith, start_count h.starts, room));
      records = refl;
    }

pub starts_none : (c v : ℕ) (h : History) → Started c h → Starts c false v h h
starts_none c v h s =
    record {
      started = record { unused = λ t b. s.unused t (omega arith) };
      starts = ap (λ (k : ℕ). take k (starts_of h)) (add-zero c) ∙ sym (append-nil (take c (starts_of h)));
      records = refl;
    }

-- the term of a proposal that is made now has a place, and its start is kept
pub proposal_fits : (b : Bool) (c : ℕ) → c + cond b 1 0 ≤ max_terms → last_below max_terms (then_some b (record { 0 = c }))
proposal_fits true c room = omega (arith, room)
proposal_fits false c room = tt

pub starts_now : (b : Bool) (c : ℕ) (v : Slot) (h : History) → Started c h → c + cond b 1 0 ≤ length h.starts → Starts c b v.0 h (with_start (then_some b (record { 0 = c })) v h)
starts_now true c v h s room = starts_one c v h s (omega (arith, room))
starts_now false c v h s room = starts_none c v.0 h s

-- the records are what they were
pub starts_records : {c slot : ℕ} {p : Bool} {h h' : History} (m : ℕ) → Starts c p slot h h' → records_of m h' ≡ records_of m h
unfolding records_of
starts_records m s = ap (λ (l : List ProposalRecord). tabulate m (λ (k : ℕ). record_of (get_or l k no_record))) s.records

pub starts_recording : {c slot : ℕ} {p : Bool} {h h' : History} (x : Recorded) → Starts c p slot h h' → Recording x h → Recording x h'
starts_recording x s d =
    record { few = d.few; known = λ k l. d.known k l ∙ ap (recorded k) (sym (starts_records x.count s)) }

-- what is recorded leaves the starts
pub starts_same : {end : ℕ} {ts : List ℕ} {x y : Recorded} {h h' : History} → Records end ts x h y h' → (k m : ℕ) → k ≡ m → take k (starts_of h') ≡ take m (starts_of h)
starts_same f k m e = ap₂ (λ (i : ℕ) (l : List Slot). take i (map (λ (s : Slot). s.0) l)) e f.starts

pub started_same : {end c : ℕ} {ts : List ℕ} {x y : Recorded} {h h' : History} → Records end ts x h y h' → Started c h → Started c h'
started_same f s =
    record { unused = λ k b. ap (λ (l : List Slot). get_or (map (λ (q : Slot). q.0) l) k 0) f.starts ∙ s.unused k b }

-- the same at another name of the counter
pub started_as : {h : History} {m n : ℕ} → m ≡ n → Started m h → Started n h
started_as {h} e = subst (λ (k : ℕ). Started k h) e

pub kept_as : {s : PaxosState} {m n : ℕ} → m ≡ n → Kept m s → Kept n s
kept_as {s} e = subst (λ (k : ℕ). Kept k s) e

-- ---- all states kept

pub kept_set : {c d n : ℕ} {b : List PaxosState} {s : PaxosState} (j : ℕ) → AllKept c n b → c ≤ d → d ≤ max_terms → j < length b → Kept d s → AllKept d n (set b j s)
kept_set {c} {d} {n} {b} {s} j a up most room k =
    record {
      room = length-set b j s ∙ a.room;
      each = λ i h. rw (get_d_set b j i s outside room) (go (eqb i j) (a.each i h));
    }
  where
    go : {q : PaxosState} (x : Bool) → Kept c q → Kept d (cond x s q)
    go true old = k
    go false old = kept_mono up most old

pub nack_counted : (n : Option Term) → bool_byte (is_some n) ≡ one_nack n
nack_counted None = refl
nack_counted (Some t) = refl

pub made_counted : (b : Bool) → bool_byte b ≡ cond b 1 0
made_counted true = refl
made_counted false = refl

pub nack_at_most : (n : Option Term) → one_nack n ≤ 1
nack_at_most None = omega arith
nack_at_most (Some t) = omega arith

-- a proposal is made only below P, so there is room for its term
pub proposing : (c p : ℕ) → c ≤ max_terms → p ≤ max_terms → c + cond (ltb c p) 1 0 ≤ max_terms
proposing c p few most = go (ltb c p) refl
  where
    go : (b : Bool) → ltb c p ≡ b → c + cond b 1 0 ≤ max_terms
    go true e = omega (arith, ltb-true c p e)
    go false e = omega arith

-- ---- piggybacks

pub latest_below : (c : ℕ) (new old : Option Piggyback) → back_below c new → back_below c old → back_below c (latest new old)
latest_below c None old h k = k
latest_below c (Some again) old h k = h

pub one_at_most : (p : Option Piggyback) → one_piggyback p ≤ 1
one_at_most None = omega arith
one_at_most (Some again) = omega arith

-- ---- turns

module _ (packet : Packet) (slot part m : ℕ) (s : Shared) where
  pub turns_more : has part m ≡ true → turns packet slot part (m + 1) s ≡ take_turn packet slot m (turns packet slot part m s)
  unfolding turns
  turns_more e = ap (λ (k : ℕ). turns packet slot part k s) (add-one m) ∙ rw (turns, e)

-- no node from m to below t takes part
pub turns_skip : (packet : Packet) (slot part m t : ℕ) (s : Shared) → m ≤ t → ((j : ℕ) → m ≤ j → j < t → has part j ≡ false) → turns packet slot part t s ≡ turns packet slot part m s
unfolding turns
turns_skip packet slot part m zero s l h = let e : 0 ≡ m = omega (arith, l) in ap (λ (k : ℕ). turns packet slot part k s) e
turns_skip packet slot part m (suc t) s l h =
    ⊎_elim (λ e. ap (λ (k : ℕ). turns packet slot part k s) (sym e))
    (λ b. rw (turns, h t (omega (arith, b)) (omega arith)) (turns_skip packet slot part m t s (omega (arith, b)) (λ j u v. h j u (omega (arith, v)))))
    (eq-or-lt_of_le l)

-- ---- what holds between turns

pub cleared_sharing : {n : ℕ} {x : Carry} {b : List PaxosState} {t : History} → Sharing n x b t → Sharing n (without_piggyback x) b t
cleared_sharing s = record { few = s.few; kept = s.kept; started = s.started; recording = s.recording; back = tt }

-- ---- the turns of the nodes below m, from y₀, b₀ and t₀ on

pub record Turned (n : ℕ) (packet : Packet) (slot : Slot) (part : ℕ) (y₀ : Carry) (b₀ : List PaxosState) (t₀ : History) (m : ℕ) (y : Carry) (b : List PaxosState) (t : History) : Type 0 where
  pub most : m ≤ n
  pub counter : y.counter ≡ y₀.counter
  pub nacks : y.nacks ≡ y₀.nacks
  pub piggybacks : y.piggybacks ≤ y₀.piggybacks + m
  pub sharing : Sharing n y b t
  pub shared : shared_of n y b t ≡ turns packet slot.0 part m (shared_of n y₀ b₀ t₀)

module _ {n : ℕ} {packet : Packet} {slot : Slot} {part : ℕ} {y₀ : Carry} {b₀ : List PaxosState} {t₀ : History} where
  pub turned_none : Sharing n y₀ b₀ t₀ → Turned n packet slot part y₀ b₀ t₀ 0 y₀ b₀ t₀
  unfolding turns
  turned_none s = record { most = omega arith; counter = refl; nacks = refl; piggybacks = omega arith; sharing = s; shared = refl }

  -- no node from m to below j takes part
  pub turned_skip : {m j : ℕ} {y : Carry} {b : List PaxosState} {t : History} → m ≤ j → j ≤ n → ((k : ℕ) → m ≤ k → k < j → has part k ≡ false) →
      Turned n packet slot part y₀ b₀ t₀ m y b t → Turned n packet slot part y₀ b₀ t₀ j y b t
  turned_skip {m} {j} up most none u =
      record {
        most = most;
        counter = u.counter;
        nacks = u.nacks;
        piggybacks = omega (arith, u.piggybacks);
        sharing = u.sharing;
        shared = u.shared ∙ sym (turns_skip packet slot.0 part m j (shared_of n y₀ b₀ t₀) up none);
      }

  -- node m takes part
  pub turned_more : {m : ℕ} {y r : Carry} {b b' : List PaxosState} {t t' : History} → m < n → has part m ≡ true → TakesTurn packet slot (record { 0 = m }) y b t r b' t' →
      Turned n packet slot part y₀ b₀ t₀ m y b t → Turned n packet slot part y₀ b₀ t₀ (m + 1) r b' t'
  turned_more {m} h e took u =
      record {
        most = omega arith;
        counter = took.counter ∙ u.counter;
        nacks = took.nacks ∙ u.nacks;
        piggybacks = omega (arith, took.piggybacks, u.piggybacks);
        sharing = took.sharing n h u.sharing;
        shared =
            took.shared n h u.sharing
            ∙ ap (take_turn packet slot.0 m) u.shared
            ∙ sym (turns_more packet slot.0 part m (shared_of n y₀ b₀ t₀) e);
      }

-- the length of a node's log is the size of its set
pub log_length : (n : ℕ) (b : List PaxosState) (j : ℕ) → j < n → length (state_of (states_of n b) j).log ≡ ones (state_in b j).logged
unfolding log_of
log_length n b j h = ap (λ (s : State). length s.log) (state_at n b j h) ∙ length_tabulate (ones (state_in b j).logged) (entry_at (state_in b j))
