-- The layout of an archive file (rules 16.2 and 16.3): the first byte, the directory, and the five sections that it names.
use Rattle.std.specs.Prelude.{ℕ, suc, ◌+◌, ◌*◌, ◌%◌, Bool, cond, ◌&&◌, List, [], ◌∷◌, eqb, leb, ltb, length, get_or, take, drop, Result, Ok, Err}
use Rattle.std.proofs.lemmas.List.Edits.{sets}
use Rattle.config.specs.declared.refusal.Refusal.{Refusal}
use Rattle.config.specs.Limits.{record_size, snapshot_size, log_size}
use Rattle.archive.specs.Bytes.{number_size, number_in}
use Rattle.archive.specs.declared.layout.Section.{Section}
use Rattle.archive.specs.declared.layout.Section.TheVariants.{Inputs, Totals, Records, Snapshots, Logs}

-- the first byte
abbrev pub marker : ℕ
marker = 5

-- how many sections there are, and how many bytes an offset or a length has
abbrev pub section_count : ℕ
section_count = 5

-- the number of a section, by which the directory has it
abbrev pub section_number : Section → ℕ
section_number Inputs = 0
section_number Totals = 1
section_number Records = 2
section_number Snapshots = 3
section_number Logs = 4

-- the section of the records
abbrev pub records_section : ℕ
records_section = 2

abbrev pub offset_size : ℕ
offset_size = 4

-- a pair of the directory: offset and length
abbrev pub pair_size : ℕ
pair_size = 2 * offset_size

-- where pair i begins, and where the first section does: behind the directory
abbrev pub pair_at : ℕ → ℕ
pair_at i = 1 + pair_size * i

abbrev pub first_offset : ℕ
first_offset = pair_at section_count

-- the bytes of the ten input fields, of the fifteen totals, of a record and of a snapshot
abbrev pub inputs_size : ℕ
inputs_size = number_size * 10

abbrev pub totals_size : ℕ
totals_size = number_size * 15

abbrev pub record_bytes : ℕ
record_bytes = number_size * record_size

abbrev pub snapshot_bytes : ℕ
snapshot_bytes = number_size * snapshot_size

-- what pair i says, and where section i ends by it
abbrev pub offset_in : List ℕ → ℕ → ℕ
offset_in file i = number_in offset_size (pair_at i) file

abbrev pub length_in : List ℕ → ℕ → ℕ
length_in file i = number_in offset_size (pair_at i + offset_size) file

abbrev pub end_in : List ℕ → ℕ → ℕ
end_in file i = offset_in file i + length_in file i

-- the first offset is 41, each section starts where the one before ends, and the last ends with the file
unfoldable pub in_order : List ℕ → Bool
in_order file =
    eqb (offset_in file 0) first_offset
    && eqb (offset_in file 1) (end_in file 0)
    && eqb (offset_in file 2) (end_in file 1)
    && eqb (offset_in file 3) (end_in file 2)
    && eqb (offset_in file 4) (end_in file 3)
    && eqb (length file) (end_in file 4)

-- the lengths are 80, 120, a multiple of 24, a multiple of 40, and 2,080
unfoldable pub lengths_fit : List ℕ → Bool
lengths_fit file =
    eqb (length_in file 0) inputs_size
    && eqb (length_in file 1) totals_size
    && eqb (length_in file 2 % record_bytes) 0
    && eqb (length_in file 3 % snapshot_bytes) 0
    && eqb (length_in file 4) log_size

-- The first byte is 5, and the directory and the sections' lengths are as they should be.
unfoldable pub layout : List ℕ → Bool
layout file = leb first_offset (length file) && eqb (get_or file 0 0) marker && in_order file && lengths_fit file

-- what a file is answered: nothing more, or 17
abbrev pub Answer : Type 0
Answer = Result (Unit {0}) Refusal

abbrev pub layout_of : List ℕ → Answer
layout_of file = cond (layout file) (Ok tt) (Err Refusal.BrokenLayout)

-- ---- what a reader hands out

-- section i, the part of the file that its pair names
abbrev pub section_in : List ℕ → ℕ → List ℕ
section_in file i = take (length_in file i) (drop (offset_in file i) file)

-- Section i of a file that keeps the layout; nothing behind the last section, nor of a file that breaks it.
unfoldable pub handed_out : List ℕ → ℕ → List ℕ
handed_out file i = cond (layout file && ltb i section_count) (section_in file i) []

-- the section behind this one; behind the last there is none
abbrev pub behind : ℕ → ℕ
behind i = cond (ltb i section_count) (suc i) i

-- how many places offset and length of each section take
abbrev pub parts_size : ℕ
parts_size = 2 * section_count

-- offset and length of each section
abbrev pub parts_in : List ℕ → List ℕ
parts_in file =
    offset_in file 0 ∷ length_in file 0
    ∷ offset_in file 1 ∷ length_in file 1
    ∷ offset_in file 2 ∷ length_in file 2
    ∷ offset_in file 3 ∷ length_in file 3
    ∷ offset_in file 4 ∷ length_in file 4 ∷ []

-- what telling them answers, and what the lent numbers then hold; a refusal leaves them as they were
unfoldable pub parts_told : List ℕ → List ℕ → Answer × List ℕ
parts_told file parts = cond (layout file) (Ok tt, sets parts 0 (parts_in file)) (Err Refusal.BrokenLayout, parts)
