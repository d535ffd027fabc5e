-- Files and their sections: a reader hands back what a file was made of, and a file is made of what a reader hands out.
-- Assumes nothing.
use Prim.Native.Nat.{ℕ, zero, suc, ◌+◌, ◌*◌, ◌%◌, ◌^◌, ◌≤◌, ◌<◌}
use mathlib.Core.Path.{◌≡◌, refl, sym, ap, ◌∙◌}
use mathlib.Core.Bool.{◌&&◌}
use mathlib.Core.List.{List, [], ◌∷◌, ◌++◌, flatten, append_assoc}
use native.Mathlib.Nat.{le_of_eq}
use native.Mathlib.Numerals.{one-add}
use native.Mathlib.Omega.{arith}
use lib.ListN.{length, get_or, take, drop, length-append, length-drop, take-append-drop, drop_of_length-le}
use lib.Seq.{take-append_seam, drop-append-add, drop-cons, drop-drop, take-add, take_at, drop_at, length-take-le}
use Rattle.archive.specs.Bytes.{byte_values, bytes_of, number_in, AreBytes, same_bytes}
use Rattle.archive.specs.Layout.{marker, section_count, offset_size, pair_size, pair_at, first_offset, record_bytes, snapshot_bytes, offset_in, length_in, end_in, section_in}
use Rattle.archive.specs.File.{directory, file_of}
use Rattle.archive.specs.Laws.{Fit, five, HandedBack, sections_in, OfItsSections}
use Rattle.archive.proofs.ByteLaws.{both, same_tests, length_bytes, number_bytes, bytes_sized, bytes_part, same_true, same_eq}
use Rattle.archive.proofs.Orders.{start_of, Keeps, keeps, has_layout, handed_section, length_section}

-- ---- the file of sections

-- where section i begins, of sections of which the first begins at this offset
abbrev start_at : ℕ → List (List ℕ) → ℕ → ℕ
start_at at ss zero = at
start_at at [] (suc i) = at
start_at at (s ∷ ss) (suc i) = start_at (at + length s) ss i

start_more : (ss : List (List ℕ)) (at i : ℕ) → i < length ss → start_at at ss (suc i) ≡ start_at at ss i + length (get_or ss i [])
start_more [] at i h = absurd (omega arith)
start_more (s ∷ ss) at zero h = refl
start_more (s ∷ ss) at (suc i) h = start_more ss (at + length s) i (omega arith)

start_least : (ss : List (List ℕ)) (at i : ℕ) → at ≤ start_at at ss i
start_least ss at zero = omega arith
start_least [] at (suc i) = omega arith
start_least (s ∷ ss) at (suc i) = omega (arith, start_least ss (at + length s) i)

-- every section ends where the last does, or before
start_most : (ss : List (List ℕ)) (at i : ℕ) → i < length ss → start_at at ss i + length (get_or ss i []) ≤ start_at at ss (length ss)
start_most [] at i h = absurd (omega arith)
start_most (s ∷ ss) at zero h = start_least ss (at + length s) (length ss)
start_most (s ∷ ss) at (suc i) h = start_most ss (at + length s) i (omega arith)

length_flatten : (ss : List (List ℕ)) (at : ℕ) → at + length (flatten ss) ≡ start_at at ss (length ss)
unfolding flatten
length_flatten [] at = omega arith
length_flatten (s ∷ ss) at = omega (arith, length-append s (flatten ss), length_flatten ss (at + length s))

length_pair : (x y : ℕ) → length (bytes_of offset_size x ++ bytes_of offset_size y) ≡ pair_size
length_pair x y = omega (arith, length-append (bytes_of offset_size x) (bytes_of offset_size y), length_bytes offset_size x, length_bytes offset_size y)

length_directory : (ss : List (List ℕ)) (at : ℕ) → length (directory at ss) ≡ pair_size * length ss
unfolding directory
length_directory [] at = refl
length_directory (s ∷ ss) at =
    omega (arith, length-append (bytes_of offset_size at ++ bytes_of offset_size (length s)) (directory (at + length s) ss), length_pair at (length s), length_directory ss (at + length s))

-- the directory from pair i on is that of the sections from section i on
drop_pairs :
    (ss : List (List ℕ)) (at i : ℕ) (rest : List ℕ) → i ≤ length ss →
    drop (pair_size * i) (directory at ss ++ rest) ≡ directory (start_at at ss i) (drop i ss) ++ rest
unfolding directory
drop_pairs ss at zero rest h = refl
drop_pairs [] at (suc i) rest h = absurd (omega arith)
drop_pairs (s ∷ ss) at (suc i) rest h =
    let pair : List ℕ = bytes_of offset_size at ++ bytes_of offset_size (length s) in
    let more : pair_size * suc i ≡ length pair + pair_size * i = omega (arith, length_pair at (length s)) in
    rw (more, append_assoc pair (directory (at + length s) ss) rest, drop-append-add pair (directory (at + length s) ss ++ rest) (pair_size * i))
    (drop_pairs ss (at + length s) i rest (omega arith))

module _ (ss : List (List ℕ)) (at i : ℕ) (rest : List ℕ) (h : i < length ss) where
  -- pair i, and what stands behind it
  at_pair :
      drop (pair_size * i) (directory at ss ++ rest) ≡
      bytes_of offset_size (start_at at ss i)
      ++ (bytes_of offset_size (length (get_or ss i [])) ++ (directory (start_at at ss i + length (get_or ss i [])) (drop (suc i) ss) ++ rest))
  unfolding directory
  at_pair = drop_pairs ss at i rest (omega arith) ∙ rw (drop-cons ss i [] h) (simp append_assoc)

  pair_offset : start_at at ss i < byte_values ^ offset_size → number_in offset_size (pair_size * i) (directory at ss ++ rest) ≡ start_at at ss i
  pair_offset small =
      rw (at_pair, take_at (bytes_of offset_size (start_at at ss i)) _ offset_size (length_bytes offset_size (start_at at ss i)))
      (number_bytes offset_size (start_at at ss i) small)

  pair_length :
      length (get_or ss i []) < byte_values ^ offset_size → number_in offset_size (pair_size * i + offset_size) (directory at ss ++ rest) ≡ length (get_or ss i [])
  pair_length small =
      rw (
        ← drop-drop offset_size (pair_size * i) (directory at ss ++ rest),
        at_pair,
        drop_at (bytes_of offset_size (start_at at ss i)) _ offset_size (length_bytes offset_size (start_at at ss i)),
        take_at (bytes_of offset_size (length (get_or ss i []))) _ offset_size (length_bytes offset_size (length (get_or ss i []))),
      )
      (number_bytes offset_size (length (get_or ss i [])) small)

-- section i of sections that lie behind this
section_at :
    (ss : List (List ℕ)) (front : List ℕ) (at i : ℕ) → length front ≡ at → i < length ss →
    take (length (get_or ss i [])) (drop (start_at at ss i) (front ++ flatten ss)) ≡ get_or ss i []
unfolding flatten
section_at [] front at i e h = absurd (omega arith)
section_at (s ∷ ss) front at zero e h = rw (drop_at front (s ++ flatten ss) at e) (take-append_seam s (flatten ss))
section_at (s ∷ ss) front at (suc i) e h =
    rw (← append_assoc front s (flatten ss)) (section_at ss (front ++ s) (at + length s) i (omega (arith, length-append front s)) (omega arith))

pub length_file :
    (inputs totals records snapshots logs : List ℕ) →
    length (file_of (five inputs totals records snapshots logs)) ≡ first_offset + length inputs + length totals + length records + length snapshots + length logs
unfolding file_of
length_file inputs totals records snapshots logs =
    let ss : List (List ℕ) = five inputs totals records snapshots logs in
    omega (arith, length-append (marker ∷ directory first_offset ss) (flatten ss), length_directory ss first_offset, length_flatten ss first_offset)

module _ {inputs totals records snapshots logs : List ℕ} (f : Fit inputs totals records snapshots logs) where
  abbrev ss : List (List ℕ)
  ss = five inputs totals records snapshots logs

  -- what is read from the file of sections that fit
  file_offset : (i : ℕ) → i < section_count → offset_in (file_of ss) i ≡ start_at first_offset ss i
  unfolding file_of
  file_offset i h =
      rw (one-add (pair_size * i)) (pair_offset ss first_offset i (flatten ss) h (omega (arith, start_most ss first_offset i h, f.small)))

  pub file_length_lem : (i : ℕ) → i < section_count → length_in (file_of ss) i ≡ length (get_or ss i [])
  unfolding file_of
  file_length_lem i h =
      let behind : pair_at i + offset_size ≡ suc (pair_size * i + offset_size) = omega arith in
      rw behind (pair_length ss first_offset i (flatten ss) h (omega (arith, start_most ss first_offset i h, f.small)))

  at_section : (i : ℕ) → i < section_count → take (length (get_or ss i [])) (drop (start_at first_offset ss i) (file_of ss)) ≡ get_or ss i []
  unfolding file_of
  at_section i h = section_at ss (marker ∷ directory first_offset ss) first_offset i (omega (arith, length_directory ss first_offset)) h

  pub file_section : (i : ℕ) → i < section_count → section_in (file_of ss) i ≡ get_or ss i []
  file_section i h = rw (file_length_lem i h, file_offset i h) (at_section i h)

  file_end : (i : ℕ) → i < section_count → end_in (file_of ss) i ≡ start_at first_offset ss (suc i)
  file_end i h = rw (file_offset i h, file_length_lem i h) (sym (start_more ss first_offset i h))

  file_starts : (i : ℕ) → i < section_count → offset_in (file_of ss) i ≡ start_of (file_of ss) i
  file_starts zero h = file_offset 0 h
  file_starts (suc i) h = file_offset (suc i) h ∙ sym (file_end i (omega arith))

  file_marked : get_or (file_of ss) 0 0 ≡ marker
  unfolding file_of
  file_marked = refl

  pub file_keeps : Keeps (file_of ss)
  file_keeps =
      record {
        long = omega (arith, length_file inputs totals records snapshots logs);
        marked = file_marked;
        in_turn = record { starts = file_starts; ends = length_file inputs totals records snapshots logs ∙ sym (file_end 4 (omega arith)) };
        in_size =
            record {
              inputs = file_length_lem 0 (omega arith) ∙ f.inputs_size;
              totals = file_length_lem 1 (omega arith) ∙ f.totals_size;
              records = ap (λ n. n % record_bytes) (file_length_lem 2 (omega arith)) ∙ f.records_size;
              snapshots = ap (λ n. n % snapshot_bytes) (file_length_lem 3 (omega arith)) ∙ f.snapshots_size;
              logs = file_length_lem 4 (omega arith) ∙ f.logs_size;
            };
      }

pub handed_back : HandedBack
handed_back inputs totals records snapshots logs f =
    let kept = has_layout _ (file_keeps f) in
    record { kept = kept; each = λ i h. handed_section _ i kept h ∙ file_section f i h }

-- ---- the sections of a file

-- so many sections, from section i on
abbrev sections_from : List ℕ → ℕ → ℕ → List (List ℕ)
sections_from file i zero = []
sections_from file i (suc n) = section_in file i ∷ sections_from file (suc i) n

-- so many pairs from a place on: the first, and those behind it
take_pair :
    (l : List ℕ) (at n : ℕ) →
    take (pair_size * suc n) (drop at l) ≡
    take offset_size (drop at l) ++ take offset_size (drop (at + offset_size) l) ++ take (pair_size * n) (drop (at + offset_size + offset_size) l)
take_pair l at n =
    let more : pair_size * suc n ≡ offset_size + (offset_size + pair_size * n) = omega arith in
    rw (
      more,
      take-add offset_size (offset_size + pair_size * n) (drop at l),
      drop-drop offset_size at l,
      take-add offset_size (pair_size * n) (drop (at + offset_size) l),
      drop-drop offset_size (at + offset_size) l,
    )
    (sym (append_assoc (take offset_size (drop at l)) (take offset_size (drop (at + offset_size) l)) _))

module _ (file : List ℕ) (are : AreBytes file) (k : Keeps file) where
  -- the bytes of the number that is read at a place of the directory
  read_again : (at : ℕ) → at + offset_size ≤ first_offset → bytes_of offset_size (number_in offset_size at file) ≡ take offset_size (drop at file)
  read_again at h =
      bytes_sized offset_size (take offset_size (drop at file))
      (length-take-le offset_size (drop at file) (omega (arith, length-drop at file, k.long)))
      (bytes_part file are offset_size at)

  directory_again :
      (n i : ℕ) → i + n ≤ section_count → directory (start_of file i) (sections_from file i n) ≡ take (pair_size * n) (drop (pair_at i) file)
  unfolding directory
  directory_again zero i h = refl
  directory_again (suc n) i h =
      let next : pair_at (suc i) ≡ pair_at i + offset_size + offset_size = omega arith in
      rw (← k.in_turn.starts i (omega arith), length_section file k i (omega arith))
      (rw (
        directory_again n (suc i) (omega arith),
        read_again (pair_at i) (omega arith),
        read_again (pair_at i + offset_size) (omega arith),
        next,
      )
      (sym (take_pair file (pair_at i) n)))

  sections_again : (n i : ℕ) → i + n ≡ section_count → flatten (sections_from file i n) ≡ drop (start_of file i) file
  unfolding flatten
  sections_again zero i h =
      let all : i ≡ section_count = omega arith in
      rw all (sym (drop_of_length-le file (le_of_eq k.in_turn.ends)))
  sections_again (suc n) i h =
      rw (sections_again n (suc i) (omega arith), ← k.in_turn.starts i (omega arith), ← drop-drop (length_in file i) (offset_in file i) file)
      (take-append-drop (length_in file i) (drop (offset_in file i) file))

pub of_its_sections : OfItsSections
unfolding file_of
of_its_sections [] are e = absurd (omega (arith, (keeps [] e).long))
of_its_sections (b ∷ rest) are e =
    let k : Keeps (b ∷ rest) = keeps (b ∷ rest) e in
    rw (directory_again (b ∷ rest) are k section_count 0 (omega arith), sections_again (b ∷ rest) are k section_count 0 (omega arith), ← k.marked)
    (ap (λ (l : List ℕ). b ∷ l) (sym (take-append-drop 40 rest)))

-- ---- two files

-- The file of its sections is that of these where its sections are these.
pub same_file :
    (file : List ℕ) → file ≡ file_of (sections_in file) →
    {inputs totals records snapshots logs : List ℕ} → Fit inputs totals records snapshots logs →
    same_bytes file (file_of (five inputs totals records snapshots logs)) ≡
    (same_bytes (section_in file 0) inputs
    && same_bytes (section_in file 1) totals
    && same_bytes (section_in file 2) records
    && same_bytes (section_in file 3) snapshots
    && same_bytes (section_in file 4) logs)
same_file file whole {inputs} {totals} {records} {snapshots} {logs} f =
    same_tests _ _
    (λ t.
    let at : (i : ℕ) → i < section_count → section_in file i ≡ get_or (five inputs totals records snapshots logs) i [] =
    λ i h. ap (λ (l : List ℕ). section_in l i) (same_true _ _ t) ∙ file_section f i h in
    rw (
      same_eq (at 0 (omega arith)),
      same_eq (at 1 (omega arith)),
      same_eq (at 2 (omega arith)),
      same_eq (at 3 (omega arith)),
      same_eq (at 4 (omega arith)),
    ))
    (λ t.
    let p4 = both _ _ t in
    let p3 = both _ _ p4.0 in
    let p2 = both _ _ p3.0 in
    let p1 = both _ _ p2.0 in
    same_eq
    (whole
    ∙ rw (
      same_true _ _ p1.0,
      same_true _ _ p1.1,
      same_true _ _ p2.1,
      same_true _ _ p3.1,
      same_true _ _ p4.1,
    )))
