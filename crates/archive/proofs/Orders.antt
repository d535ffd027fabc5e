-- What a file's layout says, as equations. Assumes nothing.
use Prim.Native.Nat.{ℕ, zero, suc, ◌+◌, ◌*◌, ◌%◌, ◌-◌, ◌≤◌, ◌<◌}
use mathlib.Core.Path.{◌≡◌, sym, ap, subst, ◌∙◌}
use mathlib.Core.Bool.{true, false}
use mathlib.Core.List.{List, [], ◌∷◌}
use native.Mathlib.Nat.{add-zero, add-suc}
use native.Mathlib.Numerals.{add-one}
use native.Mathlib.Omega.{arith}
use borrow.Author.Tests.{eq-eqb, eqb-true, le-leb, leb-true, lt-ltb}
use lib.Dec.{lit<}
use lib.ListN.{length, get_or, take, drop, set, length-drop}
use lib.Seq.{sets, take-nil, take-take, length-take-le}
use borrow.Author.Count.{below_more}
use Rattle.std.proofs.Common.{refl}
use Rattle.config.specs.Limits.{log_size}
use Rattle.std.specs.Borrow.{Bor}
use Rattle.archive.specs.declared.layout.Filed.{Filed}
use Rattle.archive.specs.declared.layout.Section.{Section}
use Rattle.archive.specs.declared.layout.Section.TheVariants.{Inputs, Totals, Records, Snapshots, Logs}
use Rattle.archive.specs.Layout.{marker, section_count, section_number, first_offset, inputs_size, totals_size, record_bytes, snapshot_bytes, offset_in, length_in, end_in, in_order, lengths_fit, layout, section_in, handed_out}
use Rattle.archive.proofs.ByteLaws.{both, no_test}

-- a section's number is one of them
pub number_low : (s : Section) → section_number s < section_count
number_low Inputs = omega arith
number_low Totals = omega arith
number_low Records = omega arith
number_low Snapshots = omega arith
number_low Logs = omega arith

-- and stands at that place of the list
pub number_here : (d : Section) (i : ℕ) → i < section_count → section_number (get_or (Inputs ∷ Totals ∷ Records ∷ Snapshots ∷ Logs ∷ []) i d) ≡ i
number_here d zero h = refl
number_here d (suc zero) h = refl
number_here d (suc (suc zero)) h = refl
number_here d (suc (suc (suc zero))) h = refl
number_here d (suc (suc (suc (suc zero)))) h = refl
number_here d (suc (suc (suc (suc (suc i))))) h = absurd (omega arith)

-- where section i begins if the sections are in order
abbrev pub start_of : List ℕ → ℕ → ℕ
start_of file zero = first_offset
start_of file (suc i) = end_in file i

pub record Ordered (file : List ℕ) : Type 0 where
  pub starts : (i : ℕ) → i < section_count → offset_in file i ≡ start_of file i
  pub ends : length file ≡ start_of file section_count

pub ordered : (file : List ℕ) → in_order file ≡ true → Ordered file
unfolding in_order
ordered file e =
    let p5 = both _ _ e in
    let p4 = both _ _ p5.0 in
    let p3 = both _ _ p4.0 in
    let p2 = both _ _ p3.0 in
    let p1 = both _ _ p2.0 in
    record {
      starts = start (eqb-true _ _ p1.0) (eqb-true _ _ p1.1) (eqb-true _ _ p2.1) (eqb-true _ _ p3.1) (eqb-true _ _ p4.1);
      ends = eqb-true _ _ p5.1;
    }
  where
    start :
        offset_in file 0 ≡ first_offset → offset_in file 1 ≡ end_in file 0 → offset_in file 2 ≡ end_in file 1 →
        offset_in file 3 ≡ end_in file 2 → offset_in file 4 ≡ end_in file 3 → (i : ℕ) → i < section_count → offset_in file i ≡ start_of file i
    start e0 e1 e2 e3 e4 zero h = e0
    start e0 e1 e2 e3 e4 (suc zero) h = e1
    start e0 e1 e2 e3 e4 (suc (suc zero)) h = e2
    start e0 e1 e2 e3 e4 (suc (suc (suc zero))) h = e3
    start e0 e1 e2 e3 e4 (suc (suc (suc (suc zero)))) h = e4
    start e0 e1 e2 e3 e4 (suc (suc (suc (suc (suc i))))) h = absurd (omega arith)

-- one section more starts where it should
pub one_more :
    (file : List ℕ) {end size : ℕ} (i : ℕ) → (end ≡ start_of file i) × ((k : ℕ) → k < i → offset_in file k ≡ start_of file k) →
    offset_in file i ≡ end → size ≡ length_in file i → (end + size ≡ start_of file (i + 1)) × ((k : ℕ) → k < i + 1 → offset_in file k ≡ start_of file k)
one_more file i told begins long =
    (rw add-one (omega (arith, begins, long)), below_more (λ k. offset_in file k ≡ start_of file k) i told.1 (begins ∙ told.0))

pub in_order_lem : (file : List ℕ) → Ordered file → in_order file ≡ true
unfolding in_order
in_order_lem file o =
    rw (
      eq-eqb (offset_in file 0) first_offset (o.starts 0 (lit< tt)),
      eq-eqb (offset_in file 1) (end_in file 0) (o.starts 1 (lit< tt)),
      eq-eqb (offset_in file 2) (end_in file 1) (o.starts 2 (lit< tt)),
      eq-eqb (offset_in file 3) (end_in file 2) (o.starts 3 (lit< tt)),
      eq-eqb (offset_in file 4) (end_in file 3) (o.starts 4 (lit< tt)),
      eq-eqb (length file) (end_in file 4) o.ends,
    )

-- a section that begins elsewhere
pub out_of_order : (file : List ℕ) (i : ℕ) → i < section_count → (offset_in file i ≡ start_of file i → ⊥) → in_order file ≡ false
out_of_order file i h other = no_test _ (λ e. other ((ordered file e).starts i h))

pub record Sized (file : List ℕ) : Type 0 where
  pub inputs : length_in file 0 ≡ inputs_size
  pub totals : length_in file 1 ≡ totals_size
  pub records : length_in file 2 % record_bytes ≡ 0
  pub snapshots : length_in file 3 % snapshot_bytes ≡ 0
  pub logs : length_in file 4 ≡ log_size

pub sized : (file : List ℕ) → lengths_fit file ≡ true → Sized file
unfolding lengths_fit
sized file e =
    let p4 = both _ _ e in
    let p3 = both _ _ p4.0 in
    let p2 = both _ _ p3.0 in
    let p1 = both _ _ p2.0 in
    record {
      inputs = eqb-true _ _ p1.0;
      totals = eqb-true _ _ p1.1;
      records = eqb-true _ _ p2.1;
      snapshots = eqb-true _ _ p3.1;
      logs = eqb-true _ _ p4.1;
    }

pub lengths_fit_lem : (file : List ℕ) → Sized file → lengths_fit file ≡ true
unfolding lengths_fit
lengths_fit_lem file s =
    rw (
      eq-eqb (length_in file 0) inputs_size s.inputs,
      eq-eqb (length_in file 1) totals_size s.totals,
      eq-eqb (length_in file 2 % record_bytes) 0 s.records,
      eq-eqb (length_in file 3 % snapshot_bytes) 0 s.snapshots,
      eq-eqb (length_in file 4) log_size s.logs,
    )

pub record Keeps (file : List ℕ) : Type 0 where
  pub long : first_offset ≤ length file
  pub marked : get_or file 0 0 ≡ marker
  pub in_turn : Ordered file
  pub in_size : Sized file

pub keeps : (file : List ℕ) → layout file ≡ true → Keeps file
unfolding layout
keeps file e =
    let p3 = both _ _ e in
    let p2 = both _ _ p3.0 in
    let p1 = both _ _ p2.0 in
    record {
      long = leb-true _ _ p1.0;
      marked = eqb-true _ _ p1.1;
      in_turn = ordered file p2.1;
      in_size = sized file p3.1;
    }

pub has_layout : (file : List ℕ) → Keeps file → layout file ≡ true
unfolding layout
has_layout file k =
    rw (
      le-leb first_offset (length file) k.long,
      eq-eqb (get_or file 0 0) marker k.marked,
      in_order_lem file k.in_turn,
      lengths_fit_lem file k.in_size,
    )

-- a reader hands out the sections of such a file
pub handed_section : (file : List ℕ) (i : ℕ) → layout file ≡ true → i < section_count → handed_out file i ≡ section_in file i
unfolding handed_out
handed_section file i e h = rw (e, lt-ltb i section_count h)

-- the sections lie within the file
module _ (file : List ℕ) (k : Keeps file) where
  rising : (n i : ℕ) → i + n ≤ section_count → start_of file i ≤ start_of file (i + n)
  rising zero i h = rw (add-zero i) (omega arith)
  rising (suc n) i h = rw (add-suc i n) (omega (arith, rising n i (omega arith), k.in_turn.starts (i + n) (omega arith)))

  pub end_inside : (i : ℕ) → i < section_count → end_in file i ≤ length file
  end_inside i h =
      let last : suc i + (section_count - suc i) ≡ section_count = omega arith in
      rw k.in_turn.ends (rw last at (rising (section_count - suc i) (suc i) (omega arith)))

  pub length_section : (i : ℕ) → i < section_count → length (section_in file i) ≡ length_in file i
  length_section i h =
      length-take-le (length_in file i) (drop (offset_in file i) file) (omega (arith, length-drop (offset_in file i) file, end_inside i h))

-- of a file that keeps the layout
module _ (file : List ℕ) (e : layout file ≡ true) where
  pub long : first_offset ≤ length file
  long = (keeps file e).long

  pub inputs_long : length (section_in file 0) ≡ inputs_size
  inputs_long = let k = keeps file e in length_section file k 0 (omega arith) ∙ k.in_size.inputs

  pub section_inside : (s : Section) → end_in file (section_number s) ≤ length file
  section_inside s = end_inside file (keeps file e) (section_number s) (number_low s)

  -- the input fields, as a reader hands them out
  pub handed_inputs : handed_out file 0 ≡ section_in file 0
  handed_inputs = handed_section file 0 e (omega arith)

  pub length_inputs : length (handed_out file 0) ≡ inputs_size
  length_inputs = ap length handed_inputs ∙ inputs_long

-- so a file that these are the bytes of keeps it
pub kept_as : (f : Filed) {file : Bor (List ℕ)} → f.bytes ≡ file → layout file.now ≡ true
kept_as f e = subst (λ (b : Bor (List ℕ)). layout b.now ≡ true) e f.kept

drop_take : (d n : ℕ) (l : List ℕ) → drop d (take n l) ≡ take (n - d) (drop d l)
drop_take zero n l = let all : n ≡ n - 0 = omega arith in ap (λ (k : ℕ). take k l) all
drop_take (suc d) zero l = let nothing : 0 ≡ 0 - suc d = omega arith in ap (λ (k : ℕ). take k (drop (suc d) l)) nothing
drop_take (suc d) (suc n) [] = sym (take-nil (suc n - suc d))
drop_take (suc d) (suc n) (x ∷ l) = let less : n - d ≡ suc n - suc d = omega arith in drop_take d n l ∙ ap (λ (k : ℕ). take k (drop d l)) less

-- a part of what a list begins with is a part of the list
pub part_of_front : (l : List ℕ) (m d n : ℕ) → d + n ≤ m → take n (drop d (take m l)) ≡ take n (drop d l)
part_of_front l m d n h = ap (take n) (drop_take d m l) ∙ take-take n (m - d) (drop d l) (omega arith)

-- ---- offset and length of each section

-- of so many sections, from section i on
abbrev pub parts_from : List ℕ → ℕ → ℕ → List ℕ
parts_from file i zero = []
parts_from file i (suc n) = offset_in file i ∷ length_in file i ∷ parts_from file (suc i) n

-- those of section i written
pub parts_more :
    (file parts : List ℕ) (i n : ℕ) → i < n →
    sets (set (set parts (2 * i) (offset_in file i)) (2 * i + 1) (length_in file i)) (2 * (i + 1)) (parts_from file (i + 1) (n - (i + 1))) ≡
    sets parts (2 * i) (parts_from file i (n - i))
parts_more file parts i n h =
    let left : n - i ≡ suc (n - (i + 1)) = omega arith in
    let next : 2 * (i + 1) ≡ suc (suc (2 * i)) = omega arith in
    rw (left, next, add-one (2 * i), add-one i)
