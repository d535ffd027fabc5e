-- Which of two filed runs supersedes, and the part of its file that is the answer (rules 17.1 to 17.4).
use Rattle.std.specs.Prelude.{ℕ, ◌+◌, ◌*◌, Bool, cond, List, [], ◌∷◌, ltb, take, drop, Result, Ok, Err}
use Rattle.std.specs.Borrow.{Bor}
use Rattle.config.specs.declared.refusal.Refusal.{Refusal}
use Rattle.config.specs.Refusals.{unless}
use Rattle.network.specs.Questions.{first_no}
use Rattle.archive.specs.Bytes.{number_size, same_bytes}
use Rattle.archive.specs.Inputs.{field_in}
use Rattle.archive.specs.Layout.{records_section, offset_in, length_in, layout, section_in}
use Rattle.archive_supersede.specs.declared.Place.{Place}
use Rattle.archive_supersede.specs.declared.Superseding.{Superseding}
use Rattle.archive_supersede.specs.declared.Superseding.TheVariants.{First, Second}

-- the slot limit is the last of the ten input fields
abbrev pub limit_field : ℕ
limit_field = 9

abbrev pub limit_in : List ℕ → ℕ
limit_in file = field_in (section_in file 0) limit_field

-- the bytes of the other nine, which stand before it
abbrev pub other_fields : List ℕ → List ℕ
other_fields file = take (number_size * limit_field) (section_in file 0)

-- 17 on the first file, 17 on the second, then 19
abbrev pub pair_questions : List ℕ → List ℕ → List (Bool × Refusal)
pair_questions first second =
    (layout first, Refusal.BrokenLayout)
    ∷ (layout second, Refusal.BrokenLayout)
    ∷ (same_bytes (other_fields first) (other_fields second), Refusal.FieldsDiffer)
    ∷ []

-- where the records stand in a file
abbrev pub records_place : List ℕ → Place
records_place file = record { offset = offset_in file records_section; length = length_in file records_section }

-- The one with the larger limit supersedes, and the first at equal limits.
abbrev pub by_limits : List ℕ → List ℕ → Superseding
by_limits first second = cond (ltb (limit_in first) (limit_in second)) (Second (records_place second)) (First (records_place first))

unfoldable pub which_supersedes : List ℕ → List ℕ → Result Superseding Refusal
which_supersedes first second = unless (first_no (pair_questions first second)) (by_limits first second)

-- ---- the part that is handed out

-- a part of a lent file: where it begins in memory, and its bytes
pub record Part : Type 0 where
  pub begins : ℕ × ℕ
  pub bytes : List ℕ

abbrev pub part_of : Bor (List ℕ) → Place → Part
part_of file p =
    record { begins = (file.ref_ptr.0, p.offset + file.ref_ptr.1); bytes = take p.length (drop p.offset file.now) }

-- what a returned part is
abbrev pub returned : Bor (List ℕ) → Part
returned part = record { begins = part.ref_ptr; bytes = part.now }

abbrev pub empty_place : Place
empty_place = record { offset = 0; length = 0 }

-- the records of whichever of the two files it is; an empty part of the first where the pair is refused
abbrev pub part_as : Result Superseding Refusal → Bor (List ℕ) → Bor (List ℕ) → Part
part_as (Ok (First p)) first second = part_of first p
part_as (Ok (Second p)) first second = part_of second p
part_as (Err r) first second = part_of first empty_place

unfoldable pub superseding_part : Bor (List ℕ) → Bor (List ℕ) → Part
superseding_part first second = part_as (which_supersedes first.now second.now) first second
