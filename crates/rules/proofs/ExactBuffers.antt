-- What the log and record buffers hold after a run that loses nothing. Assumes nothing.
use Prim.Native.Nat.{ℕ, zero, suc, ◌+◌, ◌*◌, ◌≤◌, ◌<◌}
use mathlib.Core.List.{List, [], ◌∷◌, ◌++◌, map-append}
use mathlib.Core.Logic.{⊎_elim}
use mathlib.Core.Path.{◌≡◌, refl, sym, ap, ◌∙◌}
use native.Mathlib.Nat.{eq-or-lt_of_le, le_of_suc-le-suc, zero-add, add-zero}
use native.Mathlib.Omega.{arith}
use lib.ListN.{length, get_or, set, length-set}
use lib.Seq.{sets, length-sets, get_or-set_same, get_or-set_other}
use Rattle.random.specs.Table.{tabulate}
use Rattle.random.proofs.Tables.{length_tabulate, get_d_tabulate}
use Rattle.protocol.specs.Paxos.{LogEntry, State}
use Rattle.pipeline.specs.Round.{Record, record_triple, state_of}
use Rattle.rules.specs.Entries.{terms, logs_with, record_numbers}
use Rattle.rules.proofs.Claimed.{entry_of, entries}
use Rattle.rules.proofs.ExactRound.{tabulate_next}

-- ---- numbers stored one after the other

sets_before : (l vs : List ℕ) (i j : ℕ) → j < i → get_or (sets l i vs) j 0 ≡ get_or l j 0
sets_before l [] i j h = refl
sets_before l (v ∷ vs) i j h = sets_before (set l i v) vs (suc i) j (omega arith) ∙ get_or-set_other l i j v 0 (λ q. omega arith)

sets_past : (l vs : List ℕ) (i j : ℕ) → i + length vs ≤ j → get_or (sets l i vs) j 0 ≡ get_or l j 0
sets_past l [] i j h = refl
sets_past l (v ∷ vs) i j h = sets_past (set l i v) vs (suc i) j (omega arith) ∙ get_or-set_other l i j v 0 (λ q. omega arith)

sets_at : (l vs : List ℕ) (i j : ℕ) → j < length vs → i + length vs ≤ length l → get_or (sets l i vs) (i + j) 0 ≡ get_or vs j 0
sets_at l [] i j h s = absurd (omega arith)
sets_at l (v ∷ vs) i zero h s =
    ap (λ (x : ℕ). get_or (sets (set l i v) (suc i) vs) x 0) (add-zero i) ∙ sets_before (set l i v) vs (suc i) i (omega arith) ∙ get_or-set_same l i v 0 (omega arith)
sets_at l (v ∷ vs) i (suc j) h s =
    let e : i + suc j ≡ suc i + j = omega arith in
    ap (λ (x : ℕ). get_or (sets (set l i v) (suc i) vs) x 0) e ∙ sets_at (set l i v) vs (suc i) j (omega arith) (omega (arith, length-set l i v))

-- ---- logs

pub terms_entries : (c : ℕ) → terms (entries c) ≡ tabulate c (λ (t : ℕ). t)
unfolding entries tabulate
terms_entries zero = refl
terms_entries (suc c) =
    map-append (λ (e : LogEntry). e.term) (entries c) (entry_of c ∷ [])
    ∙ ap (λ (l : List ℕ). l ++ (c ∷ [])) (terms_entries c)
    ∙ sym (tabulate_next c (λ (t : ℕ). t))

module _ (old : List ℕ) (states : List State) (n P : ℕ) (long : 2080 ≤ length old) (most : n ≤ 32) (few : P ≤ 64)
    (log : (j : ℕ) → j < n → terms (state_of states j).log ≡ tabulate P (λ (t : ℕ). t)) where
  logs_length : (m : ℕ) → length (logs_with old states m) ≡ length old
  unfolding logs_with
  logs_length zero = refl
  logs_length (suc m) =
      let own : List ℕ = terms (state_of states m).log in
      length-set (sets (logs_with old states m) (64 * m) own) (2048 + m) (length own) ∙ length-sets (logs_with old states m) (64 * m) own ∙ logs_length m

  own_length : (j : ℕ) → j < n → length (terms (state_of states j).log) ≡ P
  own_length j h = ap length (log j h) ∙ length_tabulate P (λ (t : ℕ). t)

  pub count_at : (m j : ℕ) → m ≤ n → j < m → get_or (logs_with old states m) (2048 + j) 0 ≡ P
  unfolding logs_with
  count_at zero j h l = absurd (omega arith)
  count_at (suc m) j h l = ⊎_elim (λ e. own e) (λ b. other (count_at m j (omega arith) b) b) (eq-or-lt_of_le (le_of_suc-le-suc l))
    where
      before : List ℕ
      before = sets (logs_with old states m) (64 * m) (terms (state_of states m).log)

      own : j ≡ m → get_or (set before (2048 + m) (length (terms (state_of states m).log))) (2048 + j) 0 ≡ P
      own e =
          ap (λ (x : ℕ). get_or (set before (2048 + m) (length (terms (state_of states m).log))) (2048 + x) 0) e
          ∙ get_or-set_same before (2048 + m) (length (terms (state_of states m).log)) 0 (omega (arith, length-sets (logs_with old states m) (64 * m) (terms (state_of states m).log), logs_length m))
          ∙ own_length m h

      other : get_or (logs_with old states m) (2048 + j) 0 ≡ P → j < m → get_or (set before (2048 + m) (length (terms (state_of states m).log))) (2048 + j) 0 ≡ P
      other ih b =
          get_or-set_other before (2048 + m) (2048 + j) (length (terms (state_of states m).log)) 0 (λ q. omega arith)
          ∙ sets_past (logs_with old states m) (terms (state_of states m).log) (64 * m) (2048 + j) (omega (arith, own_length m h))
          ∙ ih

  pub term_at_lem : (m j t : ℕ) → m ≤ n → j < m → t < P → get_or (logs_with old states m) (64 * j + t) 0 ≡ t
  unfolding logs_with
  term_at_lem zero j t h l b = absurd (omega arith)
  term_at_lem (suc m) j t h l b =
      get_or-set_other before (2048 + m) (64 * j + t) (length (terms (state_of states m).log)) 0 (λ q. omega arith)
      ∙ ⊎_elim (λ e. own e) (λ c. other (term_at_lem m j t (omega arith) c b) c) (eq-or-lt_of_le (le_of_suc-le-suc l))
    where
      before : List ℕ
      before = sets (logs_with old states m) (64 * m) (terms (state_of states m).log)

      own : j ≡ m → get_or before (64 * j + t) 0 ≡ t
      own e =
          ap (λ (x : ℕ). get_or before (64 * x + t) 0) e
          ∙ sets_at (logs_with old states m) (terms (state_of states m).log) (64 * m) t (omega (arith, own_length m h)) (omega (arith, own_length m h, logs_length m))
          ∙ ap (λ (x : List ℕ). get_or x t 0) (log m h)
          ∙ get_d_tabulate P (λ (i : ℕ). i) t 0 b

      other : get_or (logs_with old states m) (64 * j + t) 0 ≡ t → j < m → get_or before (64 * j + t) 0 ≡ t
      other ih c = sets_before (logs_with old states m) (terms (state_of states m).log) (64 * m) (64 * j + t) (omega arith) ∙ ih

-- ---- records

pub length_numbers : (rs : List Record) → length (record_numbers rs) ≡ 3 * length rs
unfolding record_numbers
length_numbers [] = refl
length_numbers (r ∷ rs) = omega (arith, length_numbers rs)

pub record_numbers_append : (rs more : List Record) → record_numbers (rs ++ more) ≡ record_numbers rs ++ record_numbers more
unfolding record_numbers
record_numbers_append [] more = refl
record_numbers_append (r ∷ rs) more = ap (λ (l : List ℕ). record_triple r ++ l) (record_numbers_append rs more)

numbers_at : (rs : List Record) (t : ℕ) (d : Record) → t < length rs
    → (get_or (record_numbers rs) (3 * t) 0 ≡ (get_or rs t d).id) × (get_or (record_numbers rs) (3 * t + 1) 0 ≡ (get_or rs t d).start) × (get_or (record_numbers rs) (3 * t + 2) 0 ≡ (get_or rs t d).end)
unfolding record_numbers
numbers_at [] t d h = absurd (omega arith)
numbers_at (r ∷ rs) zero d h = (refl, refl, refl)
numbers_at (r ∷ rs) (suc t) d h =
    let ih = numbers_at rs t d (omega arith) in
    let a : 3 * suc t ≡ suc (suc (suc (3 * t))) = omega arith in
    let b : 3 * suc t + 1 ≡ suc (suc (suc (3 * t + 1))) = omega arith in
    let c : 3 * suc t + 2 ≡ suc (suc (suc (3 * t + 2))) = omega arith in (
      ap (λ (x : ℕ). get_or (record_numbers (r ∷ rs)) x 0) a ∙ ih.0,
      ap (λ (x : ℕ). get_or (record_numbers (r ∷ rs)) x 0) b ∙ ih.1,
      ap (λ (x : ℕ). get_or (record_numbers (r ∷ rs)) x 0) c ∙ ih.2,
    )

-- record t in the buffer
pub stored_at : (old : List ℕ) (P : ℕ) (f : ℕ → Record) (t : ℕ) → 3 * P ≤ length old → t < P
    → (get_or (sets old 0 (record_numbers (tabulate P f))) (3 * t) 0 ≡ (f t).id)
    × (get_or (sets old 0 (record_numbers (tabulate P f))) (3 * t + 1) 0 ≡ (f t).start)
    × (get_or (sets old 0 (record_numbers (tabulate P f))) (3 * t + 2) 0 ≡ (f t).end)
stored_at old P f t long h =
    let rs : List Record = tabulate P f in
    let many = length_numbers (tabulate P f) in
    let count = length_tabulate P f in
    let at = numbers_at (tabulate P f) t (f t) (omega arith) in
    let is = get_d_tabulate P f t (f t) h in (
      front (3 * t) (omega arith) ∙ at.0 ∙ ap (λ (r : Record). r.id) is,
      front (3 * t + 1) (omega arith) ∙ at.1 ∙ ap (λ (r : Record). r.start) is,
      front (3 * t + 2) (omega arith) ∙ at.2 ∙ ap (λ (r : Record). r.end) is,
    )
  where
    front : (j : ℕ) → j < 3 * P → get_or (sets old 0 (record_numbers (tabulate P f))) j 0 ≡ get_or (record_numbers (tabulate P f)) j 0
    front j l =
        ap (λ (x : ℕ). get_or (sets old 0 (record_numbers (tabulate P f))) x 0) (sym (zero-add j))
        ∙ sets_at old (record_numbers (tabulate P f)) 0 j (omega (arith, length_numbers (tabulate P f), length_tabulate P f)) (omega (arith, length_numbers (tabulate P f), length_tabulate P f))
