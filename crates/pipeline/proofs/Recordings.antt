-- Records: one more, in the history and in the list. Assumes nothing.
use Prim.Native.Nat.{ℕ, zero, suc, ◌+◌, ◌*◌, ◌%◌, ◌^◌, ◌≤◌, ◌<◌}
use mathlib.Core.Path.{◌≡◌, refl, sym, ap, ap₂, subst, subst⁻¹, ◌∙◌}
use mathlib.Core.Bool.{Bool, true, false, cond, ◌||◌}
use mathlib.Core.List.{List, [], ◌∷◌, ◌++◌, map}
use mathlib.Core.Logic.{⊎_elim}
use native.Mathlib.Nat.{eq-or-lt_of_le, le_of_suc-le-suc}
use native.Mathlib.Omega.{arith}
use lib.Bits.{bit_and, bit_or}
use lib.Dec.{eqb}
use lib.ListN.{length, get_or, set, replicate}
use lib.Seq.{get_or-set_same, get_or-set_other}
use borrow.Author.Tests.{eq-eqb, ne_eqb}
use Rattle.config.specs.Limits.{max_terms}
use Rattle.network.specs.Graph.{has, count}
use Rattle.network.proofs.Sets.{and_both, count_le, count_lt}
use Rattle.random.proofs.Tables.{tabulate_cong, tabulate_snoc}
use Rattle.phy.specs.Slot.{among}
use Rattle.phy.proofs.Attempts.{among_more, among_skip}
use Rattle.phy.proofs.Masks.{has_and, or_shifted_bit, has_insert}
use Rattle.network.specs.declared.units.Slot.{Slot}
use Rattle.pipeline.specs.declared.records.History.{History}
use Rattle.pipeline.specs.declared.records.ProposalRecord.{ProposalRecord}
use Rattle.pipeline.specs.declared.records.Recorded.{Recorded}
use Rattle.pipeline.specs.Round.{Record, recorded, record_all}
use Rattle.pipeline.specs.View.{Recording, Records, no_record, no_start, record_of, record_at, records_of, starts_of}

-- ---- counts

-- j is added: below it nothing changes
same_below : (m j : ℕ) (f g : ℕ → Bool) → m ≤ j → ((k : ℕ) → k < m → g k ≡ (eqb k j || f k)) → count m g ≡ count m f
unfolding count
same_below zero j f g b q = refl
same_below (suc m) j f g b q =
    ap₂ (λ (x : ℕ) (y : Bool). x + cond y 1 0) (same_below m j f g (omega arith) (λ k i. q k (omega arith))) (q m (omega arith) ∙ ap (λ (y : Bool). y || f m) (ne_eqb m j (λ p. omega (arith, p))))

-- and one number more is counted
count_more : (n j : ℕ) (f g : ℕ → Bool) → j < n → f j ≡ false → ((k : ℕ) → k < n → g k ≡ (eqb k j || f k)) → count n g ≡ count n f + 1
unfolding count
count_more zero j f g l e h = absurd (omega arith)
count_more (suc n) j f g l e h = ⊎_elim last (λ b. before b (count_more n j f g b e (λ k i. h k (omega arith)))) (eq-or-lt_of_le (le_of_suc-le-suc l))
  where
    last : j ≡ n → count n g + cond (g n) 1 0 ≡ count n f + cond (f n) 1 0 + 1
    last p =
        let new : ◌≡◌ {A = ℕ} (cond (g n) 1 0) 1 = ap (λ (y : Bool). cond y 1 0) (h n (omega arith) ∙ ap (λ (y : Bool). y || f n) (eq-eqb n j (sym p))) in
        let old : ◌≡◌ {A = ℕ} (cond (f n) 1 0) 0 = ap (λ (y : Bool). cond y 1 0) (ap f (sym p) ∙ e) in
        omega (arith, new, old, same_below n j f g (omega (arith, p)) (λ k i. h k (omega arith)))

    before : j < n → count n g ≡ count n f + 1 → count n g + cond (g n) 1 0 ≡ count n f + cond (f n) 1 0 + 1
    before b more =
        let same : ◌≡◌ {A = ℕ} (cond (g n) 1 0) (cond (f n) 1 0) = ap (λ (y : Bool). cond y 1 0) (h n (omega arith) ∙ ap (λ (y : Bool). y || f n) (ne_eqb n j (λ p. omega (arith, p)))) in
        omega (arith, same, more)

pub records_few : {x : Recorded} {t : History} → Recording x t → x.count ≤ max_terms
records_few {x} d = omega (arith, d.few, count_le max_terms (has x.terms))

-- where a term is not recorded there is room
pub room_left : (x : Recorded) (t : History) (k : ℕ) → Recording x t → k < max_terms → has x.terms k ≡ false → x.count < max_terms
room_left x t k d h e =
    omega (arith, d.few, count_lt max_terms (has x.terms) (λ (j : ℕ). true) (λ i b q. refl) k h e refl, count_le max_terms (λ (j : ℕ). true))

-- ---- starts

pub start_is : (l : List Slot) (k : ℕ) → get_or (map (λ (s : Slot). s.0) l) k 0 ≡ (get_or l k no_start).0
start_is [] k = refl
start_is (s ∷ l) zero = refl
start_is (s ∷ l) (suc k) = start_is l k

pub start_set : (l : List Slot) (k : ℕ) (s : Slot) → map (λ (q : Slot). q.0) (set l k s) ≡ set (map (λ (q : Slot). q.0) l) k s.0
start_set [] k s = refl
start_set (q ∷ l) zero s = refl
start_set (q ∷ l) (suc k) s = ap (λ (m : List ℕ). q.0 ∷ m) (start_set l k s)

-- where none was made
pub starts_none_made : (m k : ℕ) → ◌≡◌ {A = ℕ} (get_or (map (λ (s : Slot). s.0) (replicate m no_start)) k 0) 0
starts_none_made zero k = refl
starts_none_made (suc m) zero = refl
starts_none_made (suc m) (suc k) = starts_none_made m k

pub start_count : (l : List Slot) → length (map (λ (q : Slot). q.0) l) ≡ length l
start_count [] = refl
start_count (q ∷ l) = ap suc (start_count l)

-- ---- the list

pub recorded_append : (t : ℕ) (rs : List Record) (r : Record) → recorded t (rs ++ (r ∷ [])) ≡ (eqb t r.id || recorded t rs)
unfolding recorded
recorded_append t [] r = refl
recorded_append t (q ∷ rs) r = ap (λ (b : Bool). eqb t q.id || b) (recorded_append t rs r) ∙ swap (eqb t q.id) (eqb t r.id) (recorded t rs)
  where
    swap : (a b c : Bool) → (a || (b || c)) ≡ (b || (a || c))
    swap true true c = refl
    swap true false c = refl
    swap false true c = refl
    swap false false c = refl

module _ (x : Recorded) (h : History) (r : ProposalRecord) (d : Recording x h) (small : r.id.0 < max_terms) (word : x.terms < 2 ^ 64) (new : has x.terms r.id.0 ≡ false) (long : length h.records ≡ max_terms) where
  abbrev added : History
  added = record { starts = h.starts; records = set h.records x.count r }

  abbrev then : Recorded
  then = record { count = x.count + 1; terms = bit_or x.terms (1 * 2 ^ r.id.0 % 2 ^ 64) }

  added_list : records_of (x.count + 1) added ≡ records_of x.count h ++ (record_of r ∷ [])
  unfolding records_of
  added_list =
      tabulate_snoc x.count (record_at added)
      ∙ ap₂ (λ (m : List Record) (q : Record). m ++ (q ∷ []))
      (tabulate_cong x.count (record_at added) (record_at h) (λ k l. ap record_of (get_or-set_other h.records x.count k r no_record (λ p. omega (arith, p)))))
      (ap record_of (get_or-set_same h.records x.count r no_record (omega (arith, room_left x h r.id.0 d small new, long))))

  has_added : (k : ℕ) → k < max_terms → has then.terms k ≡ (eqb k r.id.0 || has x.terms k)
  has_added k l = ap (λ (s : ℕ). has s k) (or_shifted_bit 64 word small) ∙ has_insert 64 word small k l

  added_recording : Recording then added
  added_recording =
      record {
        few = ap (λ (k : ℕ). k + 1) d.few ∙ sym (count_more max_terms r.id.0 (has x.terms) (has then.terms) small new has_added);
        known = λ k l. has_added k l ∙ ap (λ (b : Bool). eqb k r.id.0 || b) (d.known k l)
            ∙ sym (recorded_append k (records_of x.count h) (record_of r)) ∙ ap (recorded k) (sym added_list);
      }

-- ---- all terms of a list

pub record_all_append : (starts : List ℕ) (end : ℕ) (ts us : List ℕ) (rs : List Record)
    → record_all starts end (ts ++ us) rs ≡ record_all starts end us (record_all starts end ts rs)
unfolding record_all
record_all_append starts end [] us rs = refl
record_all_append starts end (t ∷ ts) us rs = record_all_append starts end ts us _

pub record_all_cong : (s s' : List ℕ) (end : ℕ) (ts : List ℕ) (rs : List Record) → ((t : ℕ) → get_or s t 0 ≡ get_or s' t 0)
    → record_all s end ts rs ≡ record_all s' end ts rs
unfolding record_all
record_all_cong s s' end [] rs h = refl
record_all_cong s s' end (t ∷ ts) rs h =
    record_all_cong s s' end ts _ h
    ∙ ap (λ (k : ℕ). record_all s' end ts (cond (recorded t rs) rs (rs ++ (record { id = t; start = k; end = end } ∷ [])))) (h t)

pub record_known : (starts : List ℕ) (end t : ℕ) (rs : List Record) → recorded t rs ≡ true → record_all starts end (t ∷ []) rs ≡ rs
unfolding record_all
record_known starts end t rs e = ap (λ (b : Bool). cond b rs (rs ++ (record { id = t; start = get_or starts t 0; end = end } ∷ []))) e

pub record_new : (starts : List ℕ) (end t : ℕ) (rs : List Record) → recorded t rs ≡ false
    → record_all starts end (t ∷ []) rs ≡ rs ++ (record { id = t; start = get_or starts t 0; end = end } ∷ [])
unfolding record_all
record_new starts end t rs e = ap (λ (b : Bool). cond b rs (rs ++ (record { id = t; start = get_or starts t 0; end = end } ∷ []))) e

-- ---- what the code's functions do with the history

pub records_none : {end : ℕ} {x : Recorded} {h : History} → Recording x h → Records end [] x h x h
unfolding record_all
records_none d = record { recording = d; records = refl; starts = refl }

pub records_then : {end : ℕ} {ts us : List ℕ} {x y z : Recorded} {h i j : History} → Records end ts x h y i → Records end us y i z j → Records end (ts ++ us) x h z j
records_then {end} {ts} {us} {x} {y} {z} {h} f g =
    record {
      recording = g.recording;
      records =
          g.records
          ∙ ap₂ (λ (s : List Slot) (rs : List Record). record_all (map (λ (q : Slot). q.0) s) end us rs) f.starts f.records
          ∙ sym (record_all_append (starts_of h) end ts us (records_of x.count h));
      starts = g.starts ∙ f.starts;
    }

-- no number from i to below n has f
pub records_skip : {end i n : ℕ} (f : ℕ → Bool) {x y : Recorded} {h j : History} → i ≤ n → ((k : ℕ) → i ≤ k → k < n → f k ≡ false) → Records end (among i f) x h y j
    → Records end (among n f) x h y j
records_skip {end} {i} {n} f {x} {y} {h} {j} l none = subst⁻¹ (λ (ts : List ℕ). Records end ts x h y j) (among_skip i n f l none)

-- one number more has f
pub records_more : {end k : ℕ} (f : ℕ → Bool) {x y z : Recorded} {h i j : History} → f k ≡ true → Records end (among k f) x h y i → Records end (k ∷ []) y i z j
    → Records end (among (k + 1) f) x h z j
records_more {end} {k} f {x} {y} {z} {h} {i} {j} e s t = subst (λ (ts : List ℕ). Records end ts x h z j) (among_more k f true e) (records_then s t)

-- the records, by what the starts, the terms and the records before them are
pub records_are : {end : ℕ} {ts us : List ℕ} (ss : List ℕ) {x y : Recorded} {h j : History} {rs : List Record} → Records end ts x h y j → ts ≡ us → records_of x.count h ≡ rs
    → ((t : ℕ) → get_or (starts_of h) t 0 ≡ get_or ss t 0) → records_of y.count j ≡ record_all ss end us rs
records_are {end} {ts} {us} ss {x} {y} {h} {j} {rs} f e q s =
    f.records ∙ ap₂ (record_all (starts_of h) end) e q ∙ record_all_cong (starts_of h) ss end us rs s

-- one record more
pub records_one : (x : Recorded) (h : History) (r : ProposalRecord) (d : Recording x h) (small : r.id.0 < max_terms) (word : x.terms < 2 ^ 64) (new : has x.terms r.id.0 ≡ false)
    (long : length h.records ≡ max_terms) → r.start ≡ get_or h.starts r.id.0 no_start → Records r.end.0 (r.id.0 ∷ []) x h (then x h r d small word new long) (added x h r d small word new long)
records_one x h r d small word new long start =
    record {
      recording = added_recording x h r d small word new long;
      records =
          added_list x h r d small word new long
          ∙ ap (λ (k : ℕ). records_of x.count h ++ (record { id = r.id.0; start = k; end = r.end.0 } ∷ [])) (ap (λ (s : Slot). s.0) start ∙ sym (start_is h.starts r.id.0))
          ∙ sym (record_new (starts_of h) r.end.0 r.id.0 (records_of x.count h) (sym (d.known r.id.0 small) ∙ new));
      starts = refl;
    }

-- a term that is recorded
pub records_known : {x : Recorded} {h : History} (end t : ℕ) → Recording x h → t < max_terms → has x.terms t ≡ true → Records end (t ∷ []) x h x h
records_known {x} {h} end t d small e =
    record { recording = d; records = sym (record_known (starts_of h) end t (records_of x.count h) (sym (d.known t small) ∙ e)); starts = refl }

-- terms that are all recorded
known_same : (starts : List ℕ) (end : ℕ) (f : ℕ → Bool) (rs : List Record) (k : ℕ) → ((t : ℕ) → t < k → f t ≡ true → recorded t rs ≡ true) → record_all starts end (among k f) rs ≡ rs
unfolding among record_all
known_same starts end f rs zero h = refl
known_same starts end f rs (suc k) h =
    record_all_append starts end (among k f) (cond (f k) (k ∷ []) []) rs
    ∙ ap (record_all starts end (cond (f k) (k ∷ []) [])) (known_same starts end f rs k (λ t b e. h t (omega arith) e))
    ∙ last (f k) refl
  where
    last : (b : Bool) → f k ≡ b → record_all starts end (cond b (k ∷ []) []) rs ≡ rs
    last true e = record_known starts end k rs (h k (omega arith) e)
    last false e = refl

pub records_all_known : {x : Recorded} {h : History} (end newly : ℕ) → Recording x h → bit_and newly x.terms ≡ newly → Records end (among max_terms (has newly)) x h x h
records_all_known {x} {h} end newly d e =
    record {
      recording = d;
      records = sym (known_same (starts_of h) end (has newly) (records_of x.count h) max_terms
          (λ t b g. sym (d.known t b) ∙ (and_both (has newly t) (has x.terms t) (sym (has_and newly x.terms t) ∙ ap (λ (w : ℕ). has w t) e ∙ g)).1));
      starts = refl;
    }
