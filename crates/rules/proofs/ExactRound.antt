-- What the nodes share in a run that loses nothing, and one round of it. S k is the first slot of round k. Assumes nothing.
use Rattle.std.specs.Prelude.{None}
use Prim.Native.Nat.{ℕ, zero, suc, ◌+◌, ◌-◌, ◌/◌, ◌%◌, ◌<◌, ◌≤◌, min}
use mathlib.Core.Bool.{Bool, true, false, cond, ◌||◌}
use mathlib.Core.List.{List, [], ◌∷◌, ◌++◌, append-nil}
use mathlib.Core.Logic.{◌⊎◌, inl, inr, ⊎_elim}
use mathlib.Core.Path.{◌≡◌, refl, sym, ap, ◌∙◌}
use native.Mathlib.Nat.{mod-lt}
use native.Mathlib.Numerals.{add-one}
use native.Mathlib.Omega.{arith}
use borrow.Author.Tests.{eqb-true, eqb-false, lt-ltb, le-ltb, ltb-true, ltb-false}
use lib.Dec.{ltb, eqb}
use lib.ListN.{get_or, set, length-set}
use Rattle.network.specs.Graph.{has}
use Rattle.random.specs.Table.{tabulate}
use Rattle.random.proofs.Tables.{length_tabulate, get_d_tabulate, is_tabulate, tabulate_cong, tabulate_snoc}
use Rattle.protocol.specs.Paxos.{LogEntry, State, empty, logged, newly_below, newly_to}
use Rattle.protocol.specs.Turns.{Initiated, Participated, counter_after, initiator_turn, participant_turn}
use Rattle.protocol.proofs.Places.{either, get_d_set}
use Rattle.protocol.proofs.Commit.{newly_skip}
use Rattle.pipeline.specs.Round.{one_nack, Record, Shared, Prepared, state_of, latest, one_piggyback, recorded, record_all, prepare_round, take_turn, turns, process_round}
use Rattle.rules.proofs.Claimed.{last_of, entries, is_logged, entry_free}
use Rattle.rules.proofs.ExactTurns.{Fits, claimed, announced, proposes_at, sent, initiated, participated, participated_own}

-- ---- lists by their places

pub tabulate_next : {A : Type 0} (n : ℕ) (f : ℕ → A) → tabulate (suc n) f ≡ tabulate n f ++ (f n ∷ [])
tabulate_next n f = ap (λ (k : ℕ). tabulate k f) (sym (add-one n)) ∙ tabulate_snoc n f

pub set_tabulate : {A : Type 0} (n : ℕ) (f : ℕ → A) (i : ℕ) (x d : A) → i < n → set (tabulate n f) i x ≡ tabulate n (λ j. cond (eqb j i) x (f j))
set_tabulate n f i x d h =
    is_tabulate n (λ j. cond (eqb j i) x (f j)) d (set (tabulate n f) i x) (length-set (tabulate n f) i x ∙ length_tabulate n f)
    (λ j l. get_d_set (tabulate n f) i j x d (omega (arith, length_tabulate n f)) ∙ ap (cond (eqb j i) x) (get_d_tabulate n f j d l))

-- ---- records

-- term t's: from the first slot of round t to that of round t + n / 2
abbrev pub exact_record : (ℕ → ℕ) → ℕ → ℕ → Record
exact_record S n t = record { id = t; start = S t; end = S (t + n / 2) }

recorded_either : (t : ℕ) (a b : List Record) → recorded t (a ++ b) ≡ (recorded t a || recorded t b)
unfolding recorded
recorded_either t [] b = refl
recorded_either t (x ∷ a) b = ap (λ (y : Bool). eqb t x.id || y) (recorded_either t a b) ∙ assoc (eqb t x.id) (recorded t a) (recorded t b)
  where
    assoc : (x y z : Bool) → (x || (y || z)) ≡ ((x || y) || z)
    assoc true y z = refl
    assoc false y z = refl

-- the terms below c are recorded
recorded_below : (S : ℕ → ℕ) (n c t : ℕ) → recorded t (tabulate c (exact_record S n)) ≡ ltb t c
unfolding tabulate recorded
recorded_below S n zero t = sym (le-ltb t 0 (omega arith))
recorded_below S n (suc c) t =
    ap (recorded t) (tabulate_next c (exact_record S n))
    ∙ recorded_either t (tabulate c (exact_record S n)) (exact_record S n c ∷ [])
    ∙ ap (λ (b : Bool). b || (eqb t c || false)) (recorded_below S n c t)
    ∙ go (either (ltb t c)) (either (eqb t c))
  where
    go : (ltb t c ≡ true) ⊎ (ltb t c ≡ false) → (eqb t c ≡ true) ⊎ (eqb t c ≡ false) → (ltb t c || (eqb t c || false)) ≡ ltb t (suc c)
    go (inl p) q = rw (p, lt-ltb t (suc c) (omega (arith, ltb-true t c p)))
    go (inr p) (inl q) = rw (p, q, lt-ltb t (suc c) (omega (arith, eqb-true t c q)))
    go (inr p) (inr q) = rw (p, q, le-ltb t (suc c) (omega (arith, ltb-false t c p, eqb-false t c q)))

record_append : (starts : List ℕ) (end : ℕ) (a b : List ℕ) (r : List Record) → record_all starts end (a ++ b) r ≡ record_all starts end b (record_all starts end a r)
unfolding record_all
record_append starts end [] b r = refl
record_append starts end (t ∷ a) b r = record_append starts end a b (cond (recorded t r) r (r ++ (record { id = t; start = get_or starts t 0; end = end } ∷ [])))

module _ (S : ℕ → ℕ) (n : ℕ) (starts : List ℕ) (end : ℕ) where
  -- what is recorded already
  record_again : (j c : ℕ) (l : List LogEntry) → j ≤ c → record_all starts end (newly_below j l) (tabulate c (exact_record S n)) ≡ tabulate c (exact_record S n)
  unfolding newly_below record_all
  record_again zero c l h = refl
  record_again (suc j) c l h =
      record_append starts end (newly_below j l) (cond (logged j l) [] (j ∷ [])) (tabulate c (exact_record S n))
      ∙ ap (record_all starts end (cond (logged j l) [] (j ∷ []))) (record_again j c l (omega arith))
      ∙ go (logged j l)
    where
      go : (b : Bool) → record_all starts end (cond b [] (j ∷ [])) (tabulate c (exact_record S n)) ≡ tabulate c (exact_record S n)
      go true = refl
      go false = rw (recorded_below S n c j, lt-ltb j c h)

  pub record_old : (c : ℕ) (l : List LogEntry) → record_all starts end (newly_to (last_of c) l) (tabulate c (exact_record S n)) ≡ tabulate c (exact_record S n)
  unfolding newly_to record_all
  record_old zero l = refl
  record_old (suc c) l = record_again (suc c) (suc c) l (omega arith)

  -- the next term
  pub record_claimed : (c : ℕ) → get_or starts c 0 ≡ S c → end ≡ S (c + n / 2)
      → record_all starts end (newly_to (last_of (suc c)) (entries c)) (tabulate c (exact_record S n)) ≡ tabulate (suc c) (exact_record S n)
  unfolding newly_to newly_below record_all
  record_claimed c first last =
      rw (newly_skip c (entries c) (λ t h. is_logged t c h), entry_free c c (omega arith), recorded_below S n c c, le-ltb c c (omega arith), first, last) (sym (tabulate_next c (exact_record S n)))

-- ---- what is claimed

-- after k rounds
unfoldable pub shared_at : (ℕ → ℕ) → ℕ → ℕ → ℕ → Shared
shared_at S n P k =
    record {
      states = tabulate n (claimed n P k);
      counter = min k P;
      starts = tabulate (min k P) S;
      records = tabulate (k - n / 2) (exact_record S n);
      piggyback = None;
      nacks = 0;
      piggybacks = 0;
    }

-- in round k, with these states of the nodes
abbrev pub in_round : (ℕ → ℕ) → ℕ → ℕ → ℕ → (ℕ → State) → Shared
in_round S n P k states =
    record {
      states = tabulate n states;
      counter = min (suc k) P;
      starts = tabulate (min (suc k) P) S;
      records = tabulate (suc k - n / 2) (exact_record S n);
      piggyback = None;
      nacks = 0;
      piggybacks = 0;
    }

-- after the initiator's turn
abbrev pub begun_at : ℕ → ℕ → ℕ → ℕ → State
begun_at n P k j = cond (eqb j (k % n)) (announced n P k) (claimed n P k j)

-- after the first m nodes' turns
abbrev pub turned_at : ℕ → ℕ → ℕ → ℕ → ℕ → State
turned_at n P k m j = cond (ltb j m) (claimed n P (suc k) j) (begun_at n P k j)

module _ (S : ℕ → ℕ) {n P k : ℕ} (f : Fits n P k) where
  initiator_lt : k % n < n
  initiator_lt = mod-lt k (omega arith)

  -- ---- prepare

  counter_next : counter_after (proposes_at P k) (min k P) ≡ min (suc k) P
  counter_next = ⊎_elim (λ e. new (ltb-true k P e)) (λ e. old (ltb-false k P e)) (either (ltb k P))
    where
      new : k < P → counter_after (proposes_at P k) (min k P) ≡ min (suc k) P
      new h =
          let a : min k P ≡ k = omega arith in
          rw (a, lt-ltb k P h) (omega arith)

      old : P ≤ k → counter_after (proposes_at P k) (min k P) ≡ min (suc k) P
      old h =
          let a : min k P ≡ P = omega arith in
          rw (a, le-ltb P P (omega arith)) (omega arith)

  starts_next : tabulate (min k P) S ++ cond (proposes_at P k) (S k ∷ []) [] ≡ tabulate (min (suc k) P) S
  starts_next = ⊎_elim (λ e. new (ltb-true k P e)) (λ e. old (ltb-false k P e)) (either (ltb k P))
    where
      new : k < P → tabulate (min k P) S ++ cond (proposes_at P k) (S k ∷ []) [] ≡ tabulate (min (suc k) P) S
      new h =
          let a : min k P ≡ k = omega arith in
          let b : min (suc k) P ≡ suc k = omega arith in
          rw (a, b, lt-ltb k P h) (sym (tabulate_next k S))

      old : P ≤ k → tabulate (min k P) S ++ cond (proposes_at P k) (S k ∷ []) [] ≡ tabulate (min (suc k) P) S
      old h =
          let a : min k P ≡ P = omega arith in
          let b : min (suc k) P ≡ P = omega arith in
          rw (a, b, le-ltb P P (omega arith)) (append-nil (tabulate P S))

  records_next : record_all (tabulate (min (suc k) P) S) (S k) (newly_to (last_of (suc k - n / 2)) (entries (k - n / 2))) (tabulate (k - n / 2) (exact_record S n))
      ≡ tabulate (suc k - n / 2) (exact_record S n)
  records_next = ⊎_elim (λ e. early (ltb-true k (n / 2) e)) (λ e. late (ltb-false k (n / 2) e)) (either (ltb k (n / 2)))
    where
      starts : List ℕ
      starts = tabulate (min (suc k) P) S

      early : k < n / 2 → record_all starts (S k) (newly_to (last_of (suc k - n / 2)) (entries (k - n / 2))) (tabulate (k - n / 2) (exact_record S n)) ≡ tabulate (suc k - n / 2) (exact_record S n)
      early h =
          let a : suc k - n / 2 ≡ k - n / 2 = omega arith in
          rw a (record_old S n starts (S k) (k - n / 2) (entries (k - n / 2)))

      late : n / 2 ≤ k → record_all starts (S k) (newly_to (last_of (suc k - n / 2)) (entries (k - n / 2))) (tabulate (k - n / 2) (exact_record S n)) ≡ tabulate (suc k - n / 2) (exact_record S n)
      late h =
          let a : suc k - n / 2 ≡ suc (k - n / 2) = omega arith in
          let b : k ≡ k - n / 2 + n / 2 = omega arith in
          rw a (record_claimed S n starts (S k) (k - n / 2) (get_d_tabulate (min (suc k) P) S (k - n / 2) 0 (omega arith)) (ap S b))

  pub prepared : prepare_round n P (k % n) (S k) (shared_at S n P k) ≡ record { shared = in_round S n P k (begun_at n P k); packet = sent n P k }
  unfolding prepare_round shared_at sent
  prepared =
      ap after (ap (initiator_turn (k % n) n (min k P) (proposes_at P k) None) (get_d_tabulate n (claimed n P k) (k % n) empty initiator_lt) ∙ initiated f)
      ∙ (λ d. record {
        shared = record {
          states = set_tabulate n (claimed n P k) (k % n) (announced n P k) empty initiator_lt d;
          counter = counter_next d;
          starts = starts_next d;
          records = (ap (λ (l : List ℕ). record_all l (S k) (newly_to (last_of (suc k - n / 2)) (entries (k - n / 2))) (tabulate (k - n / 2) (exact_record S n))) starts_next ∙ records_next) d;
          piggyback = None;
          nacks = 0;
          piggybacks = 0;
        };
        packet = sent n P k;
      })
    where
      after : Initiated → Prepared
      after turn =
          let starts : List ℕ = tabulate (min k P) S ++ cond (proposes_at P k) (S k ∷ []) [] in
          record {
            shared = record {
              states = set (tabulate n (claimed n P k)) (k % n) turn.state;
              counter = counter_after (proposes_at P k) (min k P);
              starts = starts;
              records = record_all starts (S k) turn.newly (tabulate (k - n / 2) (exact_record S n));
              piggyback = None;
              nacks = 0 + one_nack turn.packet.nack_term;
              piggybacks = 0;
            };
            packet = turn.packet;
          }

  -- ---- process

  -- a node's turn, whichever it is
  turn_at : (m : ℕ) → m < n → (e : ℕ) × (participant_turn m (sent n P k) (begun_at n P k m)
      ≡ record { state = claimed n P (suc k) m; newly = newly_to (last_of (suc k - n / 2)) (entries e); recovered = None })
  turn_at m h = ⊎_elim own other (either (eqb m (k % n)))
    where
      turn_with : State → ℕ → Type 0
      turn_with s e = participant_turn m (sent n P k) s ≡ record { state = claimed n P (suc k) m; newly = newly_to (last_of (suc k - n / 2)) (entries e); recovered = None }

      own : eqb m (k % n) ≡ true → (e : ℕ) × turn_with (begun_at n P k m) e
      own q = (suc k - n / 2, rw (q, eqb-true m (k % n) q) (participated_own f))

      other : eqb m (k % n) ≡ false → (e : ℕ) × turn_with (begun_at n P k m) e
      other q = (k - n / 2, rw q (participated f m h))

  took_turn : (slot m : ℕ) → m < n → take_turn (sent n P k) slot m (in_round S n P k (turned_at n P k m)) ≡ in_round S n P k (turned_at n P k (suc m))
  unfolding take_turn
  took_turn slot m h =
      let e = turn_at m h in
      ap after (ap (participant_turn m (sent n P k)) here ∙ e.1)
      ∙ (λ d. record {
        states = (set_tabulate n (turned_at n P k m) m (claimed n P (suc k) m) empty h ∙ tabulate_cong n (λ j. cond (eqb j m) (claimed n P (suc k) m) (turned_at n P k m j)) (turned_at n P k (suc m)) (λ j l. next j)) d;
        counter = min (suc k) P;
        starts = tabulate (min (suc k) P) S;
        records = record_old S n (tabulate (min (suc k) P) S) slot (suc k - n / 2) (entries e.0) d;
        piggyback = None;
        nacks = 0;
        piggybacks = 0;
      })
    where
      after : Participated → Shared
      after turn =
          record {
            states = set (tabulate n (turned_at n P k m)) m turn.state;
            counter = min (suc k) P;
            starts = tabulate (min (suc k) P) S;
            records = record_all (tabulate (min (suc k) P) S) slot turn.newly (tabulate (suc k - n / 2) (exact_record S n));
            piggyback = latest turn.recovered None;
            nacks = 0;
            piggybacks = 0 + one_piggyback turn.recovered;
          }

      here : state_of (tabulate n (turned_at n P k m)) m ≡ begun_at n P k m
      here = get_d_tabulate n (turned_at n P k m) m empty h ∙ rw (le-ltb m m (omega arith))

      next : (j : ℕ) → cond (eqb j m) (claimed n P (suc k) m) (turned_at n P k m j) ≡ turned_at n P k (suc m) j
      next j = ⊎_elim is (λ q. ⊎_elim (low q) (high q) (either (ltb j m))) (either (eqb j m))
        where
          is : eqb j m ≡ true → cond (eqb j m) (claimed n P (suc k) m) (turned_at n P k m j) ≡ turned_at n P k (suc m) j
          is q =
              let r = eqb-true j m q in
              rw (q, lt-ltb j (suc m) (omega arith)) (ap (claimed n P (suc k)) (sym r))

          low : eqb j m ≡ false → ltb j m ≡ true → cond (eqb j m) (claimed n P (suc k) m) (turned_at n P k m j) ≡ turned_at n P k (suc m) j
          low q l = rw (q, l, lt-ltb j (suc m) (omega (arith, ltb-true j m l)))

          high : eqb j m ≡ false → ltb j m ≡ false → cond (eqb j m) (claimed n P (suc k) m) (turned_at n P k m j) ≡ turned_at n P k (suc m) j
          high q l = rw (q, l, le-ltb j (suc m) (omega (arith, ltb-false j m l, eqb-false j m q)))

  all_turns : (slot part m : ℕ) → ((j : ℕ) → j < n → has part j ≡ true) → m ≤ n
      → turns (sent n P k) slot part m (in_round S n P k (begun_at n P k)) ≡ in_round S n P k (turned_at n P k m)
  unfolding turns
  all_turns slot part zero all h = ap (λ (l : List State). with_states l) (tabulate_cong n (begun_at n P k) (turned_at n P k 0) (λ j l. sym (rw (le-ltb j 0 (omega arith)))))
    where
      with_states : List State → Shared
      with_states l =
          record {
            states = l;
            counter = min (suc k) P;
            starts = tabulate (min (suc k) P) S;
            records = tabulate (suc k - n / 2) (exact_record S n);
            piggyback = None;
            nacks = 0;
            piggybacks = 0;
          }
  all_turns slot part (suc m) all h =
      rw (turns, all m h) (ap (take_turn (sent n P k) slot m) (all_turns slot part m all (omega arith)) ∙ took_turn slot m h)

  pub processed : (slot part : ℕ) → ((j : ℕ) → j < n → has part j ≡ true) → process_round n (sent n P k) slot part (in_round S n P k (begun_at n P k)) ≡ shared_at S n P (suc k)
  unfolding process_round shared_at
  processed slot part all =
      all_turns slot part n all (omega arith)
      ∙ (λ d. record {
        states = tabulate_cong n (turned_at n P k n) (claimed n P (suc k)) (λ j l. rw (lt-ltb j n l)) d;
        counter = min (suc k) P;
        starts = tabulate (min (suc k) P) S;
        records = tabulate (suc k - n / 2) (exact_record S n);
        piggyback = None;
        nacks = 0;
        piggybacks = 0;
      })
