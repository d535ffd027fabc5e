-- What the nodes share grows by little in a round: one NACK, a piggyback for each node, and at most 64 records in all. Assumes nothing.
use Rattle.std.specs.Prelude.{Option, Some, None}
use Prim.Native.Nat.{ℕ, zero, suc, ◌+◌, ◌≤◌, ◌<◌}
use mathlib.Core.Bool.{Bool, true, false, cond, ◌||◌}
use mathlib.Core.List.{List, [], ◌∷◌, ◌++◌}
use mathlib.Core.Logic.{⊎_elim}
use mathlib.Core.Path.{refl, sym, ap, ◌∙◌, subst}
use native.Mathlib.Omega.{arith}
use borrow.Author.Tests.{eq-eqb}
use lib.Dec.{eqb, ltb}
use lib.ListN.{length, get_or, length-append}
use Rattle.network.specs.Graph.{has, count}
use Rattle.network.proofs.Sets.{two, or_right, count_lt}
use Rattle.network.specs.declared.units.Term.{Term}
use Rattle.phy.specs.declared.packet.Packet.{Packet}
use Rattle.phy.specs.declared.packet.Piggyback.{Piggyback}
use Rattle.protocol.specs.Paxos.{LogEntry, State, logged, vote, held, updated, hold, hold_new, merge_votes_up_to, raise, log_entry, greatest_quorum, commit_term, commit_below, commit_to, newly_below, newly_to}
use Rattle.protocol.specs.Turns.{propose, announce, initiator_turn, take_data, take_piggyback, take_votes, participant_turn}
use Rattle.protocol.specs.View.{last_below}
use Rattle.pipeline.specs.Round.{Record, Shared, state_of, recorded, record_all, prepare_round, take_turn, turns, cleared, process_round}
use Rattle.pipeline.proofs.Recordings.{recorded_append, record_all_append, record_known, record_new}
use Rattle.pipeline.proofs.Sharing.{all_set, greatest_below, nack_at_most, one_at_most}

-- ---- no more records than terms below 64 that are recorded

abbrev pub FewRecords : List Record → Type 0
FewRecords rs = length rs ≤ count 64 (λ (t : ℕ). recorded t rs)

few_one : (starts : List ℕ) (end t : ℕ) (rs : List Record) → t < 64 → FewRecords rs → FewRecords (record_all starts end (t ∷ []) rs)
few_one starts end t rs small f =
    ⊎_elim (λ e. subst FewRecords (sym (record_known starts end t rs e)) f)
    (λ e.
    let r : Record = record { id = t; start = get_or starts t 0; end = end } in
    let more : count 64 (λ (k : ℕ). recorded k rs) < count 64 (λ (k : ℕ). recorded k (rs ++ (r ∷ [])))
    = count_lt 64 (λ (k : ℕ). recorded k rs) (λ (k : ℕ). recorded k (rs ++ (r ∷ [])))
    (λ k h y. recorded_append k rs r ∙ or_right (eqb k t) (recorded k rs) y) t small e
    (recorded_append t rs r ∙ ap (λ (b : Bool). b || recorded t rs) (eq-eqb t t refl)) in
    subst FewRecords (sym (record_new starts end t rs e)) (omega (arith, more, length-append rs (r ∷ []))))
    (two (recorded t rs))

few_below : (starts : List ℕ) (end k : ℕ) (l : List LogEntry) (rs : List Record) → k ≤ 64 → FewRecords rs → FewRecords (record_all starts end (newly_below k l) rs)
unfolding newly_below record_all
few_below starts end zero l rs h f = f
few_below starts end (suc k) l rs h f =
    subst FewRecords (sym (record_all_append starts end (newly_below k l) (cond (logged k l) [] (k ∷ [])) rs))
    (go (logged k l) (record_all starts end (newly_below k l) rs) (few_below starts end k l rs (omega arith) f))
  where
    go : (b : Bool) (now : List Record) → FewRecords now → FewRecords (record_all starts end (cond b [] (k ∷ [])) now)
    go true now f = f
    go false now f = few_one starts end k now (omega arith) f

few_to : (starts : List ℕ) (end : ℕ) (last : Option Term) (l : List LogEntry) (rs : List Record) → last_below 64 last → FewRecords rs → FewRecords (record_all starts end (newly_to last l) rs)
unfolding newly_to record_all
few_to starts end None l rs h f = f
few_to starts end (Some u) l rs h f = few_below starts end (suc u.0) l rs h f

-- ---- a node's last accepted term stays below 64

abbrev pub Low : State → Type 0
Low s = last_below 64 s.last

low_below : (k : ℕ) (s : State) → k ≤ 64 → Low s → Low (commit_below k s)
unfolding commit_below commit_term
low_below zero s h l = l
low_below (suc k) s h l = go (logged k (commit_below k s).log) (low_below k s (omega arith) l)
  where
    raised : (last : Option Term) → last_below 64 last → last_below 64 (raise k last)
    raised None l = h
    raised (Some u) l = omega (arith, l)

    go : (b : Bool) → Low (commit_below k s)
        → last_below 64 (cond b (commit_below k s) (record { log = (commit_below k s).log ++ log_entry k ((commit_below k s).pending k); pending = updated k None (commit_below k s).pending; last = raise k (commit_below k s).last })).last
    go true l = l
    go false l = raised (commit_below k s).last l

low_to : (last : Option Term) (s : State) → last_below 64 last → Low s → Low (commit_to last s)
unfolding commit_to
low_to None s h l = l
low_to (Some u) s h l = low_below (suc u.0) s h l

low_propose : (b : Bool) (i c : ℕ) (s : State) → Low s → Low (propose b i c s)
unfolding hold
low_propose true i c s l = l
low_propose false i c s l = l

low_new : (t v : ℕ) (d : Option Term) (s : State) → Low s → Low (hold_new t v d s)
unfolding hold_new hold
low_new t v d s l = go (held t s)
  where
    go : (b : Bool) → Low (cond b s (hold t v d s))
    go true = l
    go false = l

low_data : (t v : ℕ) (d : Option Term) (s : State) → Low s → Low (take_data t v d s)
unfolding take_data
low_data t v None s l = l
low_data t v (Some u) s l = low_new t v (Some u) s l

low_piggyback : (v : ℕ) (p : Option Piggyback) (s : State) → Low s → Low (take_piggyback v p s)
unfolding take_piggyback
low_piggyback v None s l = l
low_piggyback v (Some again) s l = low_new again.term.0 v again.«data» s l

pub low_initiator : (i n c : ℕ) (b : Bool) (pb : Option Piggyback) (s : State) → Low s → Low (initiator_turn i n c b pb s).state
unfolding initiator_turn announce
low_initiator i n c b pb s l = low_to (greatest_quorum 64 n (propose b i c s)) (propose b i c s) (greatest_below 64 n (propose b i c s)) (low_propose b i c s l)

pub low_participant : (i : ℕ) (p : Packet) (s : State) → last_below 64 p.last_accepted_term → Low s → Low (participant_turn i p s).state
unfolding participant_turn take_votes merge_votes_up_to
low_participant i p s h l =
    low_piggyback (vote i) p.piggyback _ (low_data p.current_term.0 p.flags_bitmap p.proposal_data (commit_to p.last_accepted_term s) (low_to p.last_accepted_term s h l))

-- all states
abbrev pub AllLow : List State → Type 0
AllLow states = (j : ℕ) → Low (state_of states j)

-- ---- from turn to turn

-- What holds of what the nodes share, after at most a NACKs and b piggybacks.
pub record Few (a b : ℕ) (s : Shared) : Type 0 where
  pub nacks : s.nacks ≤ a
  pub piggybacks : s.piggybacks ≤ b
  pub filed : FewRecords s.records
  pub low : AllLow s.states

pub few_prepared : (n proposals i slot a b : ℕ) (s : Shared) → Few a b s → Few (a + 1) b (prepare_round n proposals i slot s).shared
unfolding prepare_round initiator_turn announce
few_prepared n proposals i slot a b s f =
    let proposes : Bool = ltb s.counter proposals in
    let now : State = propose proposes i s.counter (state_of s.states i) in
    record {
      nacks = omega (arith, f.nacks, nack_at_most (initiator_turn i n s.counter proposes s.piggyback (state_of s.states i)).packet.nack_term);
      piggybacks = f.piggybacks;
      filed = few_to _ slot (greatest_quorum 64 n now) now.log s.records (greatest_below 64 n now) f.filed;
      low = all_set Low s.states i _ f.low (low_initiator i n s.counter proposes s.piggyback (state_of s.states i) (f.low i));
    }

-- the packet's last accepted term is that of the initiator
pub low_packet : (n proposals i slot : ℕ) (s : Shared) → AllLow s.states → last_below 64 (prepare_round n proposals i slot s).packet.last_accepted_term
unfolding prepare_round initiator_turn announce
low_packet n proposals i slot s low = low_initiator i n s.counter (ltb s.counter proposals) s.piggyback (state_of s.states i) (low i)

module _ (packet : Packet) (slot part : ℕ) (h : last_below 64 packet.last_accepted_term) where
  few_turn : (a b j : ℕ) (s : Shared) → Few a b s → Few a (suc b) (take_turn packet slot j s)
  unfolding take_turn participant_turn
  few_turn a b j s f =
      record {
        nacks = f.nacks;
        piggybacks = omega (arith, f.piggybacks, one_at_most (participant_turn j packet (state_of s.states j)).recovered);
        filed = few_to s.starts slot packet.last_accepted_term (state_of s.states j).log s.records h f.filed;
        low = all_set Low s.states j _ f.low (low_participant j packet (state_of s.states j) h (f.low j));
      }

  few_turns : (a b m : ℕ) (s : Shared) → Few a b s → Few a (b + m) (turns packet slot part m s)
  unfolding turns
  few_turns a b zero s f = record { nacks = f.nacks; piggybacks = omega (arith, f.piggybacks); filed = f.filed; low = f.low }
  few_turns a b (suc m) s f = go (has part m) (few_turns a b m s f)
    where
      go : (t : Bool) → Few a (b + m) (turns packet slot part m s) → Few a (b + suc m) (elim t [ true ↦ take_turn packet slot m (turns packet slot part m s) | false ↦ turns packet slot part m s ])
      go true f = let r = few_turn a (b + m) m (turns packet slot part m s) f in record { nacks = r.nacks; piggybacks = omega (arith, r.piggybacks); filed = r.filed; low = r.low }
      go false f = record { nacks = f.nacks; piggybacks = omega (arith, f.piggybacks); filed = f.filed; low = f.low }

  pub few_processed : (n a b : ℕ) (s : Shared) → Few a b s → Few a (b + n) (process_round n packet slot part s)
  unfolding process_round
  few_processed n a b s f = few_turns a b n (cleared s) (record { nacks = f.nacks; piggybacks = f.piggybacks; filed = f.filed; low = f.low })
