-- Bytes laid behind each other over a list, and the file that they make. Assumes nothing.
use Prim.Native.Nat.{ℕ, ◌+◌, ◌*◌, ◌≤◌, min}
use mathlib.Core.Path.{◌≡◌, refl, sym, ap, ap₂, ◌∙◌}
use mathlib.Core.List.{List, [], ◌∷◌, ◌++◌, flatten, append_assoc, append-nil}
use native.Mathlib.Nat.{zero-add}
use native.Mathlib.Omega.{arith}
use lib.ListN.{length, take, set, length-append}
use lib.Seq.{sets, length-take-le}
use Rattle.config.specs.Limits.{record_size, snapshot_size, log_size}
use Rattle.metrics.specs.declared.summary.Summary.{Summary}
use Rattle.metrics.specs.Totals.{totals}
use Rattle.phy.specs.Snapshots.{snapshot_room}
use Rattle.phy.proofs.Snapshots.{sets_append}
use Rattle.rules.specs.Answers.{ran}
use Rattle.archive.specs.declared.inputs.Inputs.{Inputs}
use Rattle.archive.specs.Bytes.{number_size, bytes_of, numbers_bytes}
use Rattle.archive.specs.Inputs.{input_numbers}
use Rattle.archive.specs.Layout.{marker, offset_size, pair_size, pair_at, first_offset, inputs_size, totals_size}
use Rattle.archive.specs.File.{directory, file_of}
use Rattle.archive.specs.Laws.{five}
use Rattle.archive.proofs.ByteLaws.{length_bytes, length_numbers}
use Rattle.archive_writer.specs.Filed.{filed}
use Rattle.archive_writer.specs.Working.{totals_at, records_at, pair_of, pairs_of, head_of, CanPut, Laid}
use Rattle.archive_writer.proofs.Laws.{length_inputs, length_totals}

-- ---- bytes behind bytes

-- the first n places of a list hold these bytes now
record Front (l l' s : List ℕ) (n : ℕ) : Type 0 where
  contents : l' ≡ sets l 0 s
  size : length s ≡ n

-- others are laid behind them
onto : {l l' l'' s : List ℕ} {n m : ℕ} → Front l l' s n → (t : List ℕ) → l'' ≡ sets l' n t → length t ≡ m → Front l l'' (s ++ t) (n + m)
onto {l} {s = s} f t e k =
    record {
      contents = e ∙ ap₂ (λ (x : List ℕ) (i : ℕ). sets x i t) f.contents (sym (zero-add (length s) ∙ f.size)) ∙ sym (sets_append l 0 s t);
      size = omega (arith, length-append s t, f.size);
    }

-- six parts, one behind the other
behind : (h a b c d e : List ℕ) → h ++ a ++ b ++ c ++ d ++ e ≡ h ++ flatten (five a b c d e)
unfolding flatten
behind h a b c d e = simp (append_assoc, append-nil)

-- ---- the head

length_pair : (offset size : ℕ) → length (pair_of offset size) ≡ pair_size
length_pair offset size = omega (arith, length-append (bytes_of offset_size offset) (bytes_of offset_size size), length_bytes offset_size offset, length_bytes offset_size size)

length_pairs : (at : ℕ) (ns : List ℕ) → length (pairs_of at ns) ≡ pair_size * length ns
length_pairs at [] = omega arith
length_pairs at (n ∷ ns) = omega (arith, length-append (pair_of at n) (pairs_of (at + n) ns), length_pair at n, length_pairs (at + n) ns)

length_head : (records snapshots : ℕ) → length (head_of records snapshots) ≡ first_offset
length_head records snapshots = omega (arith, length_pairs first_offset (inputs_size ∷ totals_size ∷ records ∷ snapshots ∷ log_size ∷ []))

-- the first byte, and the pairs one behind the other
pub head_laid : (records snapshots : ℕ) (file : List ℕ) {f₁ f₂ f₃ f₄ f₅ : List ℕ} →
    f₁ ≡ sets (set file 0 marker) (pair_at 0) (pair_of first_offset inputs_size) →
    f₂ ≡ sets f₁ (pair_at 1) (pair_of totals_at totals_size) →
    f₃ ≡ sets f₂ (pair_at 2) (pair_of records_at records) →
    f₄ ≡ sets f₃ (pair_at 3) (pair_of (records_at + records) snapshots) →
    f₅ ≡ sets f₄ (pair_at 4) (pair_of (records_at + records + snapshots) log_size) →
    f₅ ≡ sets file 0 (head_of records snapshots)
unfolding flatten
head_laid records snapshots file e₁ e₂ e₃ e₄ e₅ =
    let marked : Front file (set file 0 marker) (marker ∷ []) 1 = record { contents = refl; size = refl } in
    let first : List ℕ = pair_of first_offset inputs_size in
    let second : List ℕ = pair_of totals_at totals_size in
    let third : List ℕ = pair_of records_at records in
    let fourth : List ℕ = pair_of (records_at + records) snapshots in
    let fifth : List ℕ = pair_of (records_at + records + snapshots) log_size in
    let two = onto (onto marked first e₁ (length_pair first_offset inputs_size)) second e₂ (length_pair totals_at totals_size) in
    let four = onto (onto two third e₃ (length_pair records_at records)) fourth e₄ (length_pair (records_at + records) snapshots) in
    (onto four fifth e₅ (length_pair (records_at + records + snapshots) log_size)).contents
    ∙ ap (sets file 0) (behind (marker ∷ []) first second third fourth fifth)

-- ---- the file

-- the first n of these numbers
length_part : (n : ℕ) (xs : List ℕ) → n ≤ length xs → length (numbers_bytes (take n xs)) ≡ number_size * n
length_part n xs h = length_numbers (take n xs) ∙ ap (λ (k : ℕ). number_size * k) (length-take-le n xs h)

abbrev lengths : List (List ℕ) → List ℕ
lengths [] = []
lengths (s ∷ ss) = length s ∷ lengths ss

pairs_are : (at : ℕ) (ss : List (List ℕ)) → directory at ss ≡ pairs_of at (lengths ss)
unfolding directory
pairs_are at [] = refl
pairs_are at (s ∷ ss) = ap (λ (l : List ℕ). pair_of at (length s) ++ l) (pairs_are (at + length s) ss)

module _ (inputs totals records snapshots logs : List ℕ) (i : length inputs ≡ inputs_size) (t : length totals ≡ totals_size) {m n : ℕ} (r : length records ≡ m)
    (s : length snapshots ≡ n) (l : length logs ≡ log_size) where
  directory_is : head_of m n ≡ marker ∷ directory first_offset (five inputs totals records snapshots logs)
  directory_is =
      ap (λ (ns : List ℕ). marker ∷ pairs_of first_offset ns) (λ k. sym i k ∷ sym t k ∷ sym r k ∷ sym s k ∷ sym l k ∷ [])
      ∙ ap (λ (p : List ℕ). marker ∷ p) (sym (pairs_are first_offset (five inputs totals records snapshots logs)))

  file_is : head_of m n ++ inputs ++ totals ++ records ++ snapshots ++ logs ≡ file_of (five inputs totals records snapshots logs)
  unfolding file_of
  file_is =
      behind (head_of m n) inputs totals records snapshots logs
      ∙ ap (λ (h : List ℕ). h ++ flatten (five inputs totals records snapshots logs)) directory_is

-- The whole file, laid part by part, for `m` stored snapshots.
module _ {x : Inputs} {s : Summary} {records snapshots logs file : List ℕ} (pre : CanPut x s records snapshots logs file) {m : ℕ}
    (stored : m ≡ min (snapshot_room snapshots) s.snapshots) where
  -- how many bytes the records and the snapshots have
  abbrev recorded : ℕ
  recorded = number_size * (record_size * s.records)

  abbrev shown : ℕ
  shown = number_size * (snapshot_size * m)

  pub file_laid : {f₁ f₂ f₃ f₄ f₅ f₆ : List ℕ} {size : ℕ} →
      f₁ ≡ sets file 0 (head_of recorded shown) →
      f₂ ≡ sets f₁ first_offset (numbers_bytes (input_numbers x)) →
      f₃ ≡ sets f₂ totals_at (numbers_bytes (totals s)) →
      f₄ ≡ sets f₃ records_at (numbers_bytes (take (record_size * s.records) records)) →
      f₅ ≡ sets f₄ (records_at + recorded) (numbers_bytes (take (snapshot_size * m) snapshots)) →
      f₆ ≡ sets f₅ (records_at + recorded + shown) logs →
      size ≡ records_at + recorded + shown + length logs →
      Laid (filed x (ran s logs records snapshots)) file size f₆
  unfolding filed
  file_laid {f₁} e₁ e₂ e₃ e₄ e₅ e₆ k =
      let first : List ℕ = numbers_bytes (input_numbers x) in
      let second : List ℕ = numbers_bytes (totals s) in
      let third : List ℕ = numbers_bytes (take (record_size * s.records) records) in
      let fourth : ℕ → List ℕ = λ n. numbers_bytes (take (snapshot_size * n) snapshots) in
      let records_are : length third ≡ recorded = length_part (record_size * s.records) records pre.recorded in
      let snapshots-are : length (fourth m) ≡ shown = length_part (snapshot_size * m) snapshots (omega (arith, stored)) in
      let head : Front file f₁ (head_of recorded shown) first_offset = record { contents = e₁; size = length_head recorded shown } in
      let three = onto (onto head first e₂ (length_inputs x)) second e₃ (length_totals s) in
      let all = onto (onto (onto three third e₄ records_are) (fourth m) e₅ snapshots-are) logs e₆ refl in
      let whole = file_is first second third (fourth m) logs (length_inputs x) (length_totals s) records_are snapshots-are pre.logged
      ∙ ap (λ (n : ℕ). file_of (five first second third (fourth n) logs)) stored in
      record { sized = k ∙ sym all.size ∙ ap length whole; contents = all.contents ∙ ap (sets file 0) whole }
