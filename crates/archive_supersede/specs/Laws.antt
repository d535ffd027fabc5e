-- The law of two filed runs (rules 12.11 and 17.5).
use Rattle.std.specs.Prelude.{ℕ, ◌≡◌, true, List, [], Result, Ok, Err}
use Rattle.std.specs.Borrow.{Bor}
use Rattle.config.specs.declared.refusal.Refusal.{Refusal}
use Rattle.protocol.specs.Growth.{Continues}
use Rattle.archive.specs.Layout.{records_section, section_in}
use Rattle.archive_check.specs.Check.{check_of}
use Rattle.archive_supersede.specs.declared.Superseding.{Superseding}
use Rattle.archive_supersede.specs.declared.Superseding.TheVariants.{First, Second}
use Rattle.archive_supersede.specs.Supersede.{which_supersedes, superseding_part}

abbrev pub records_in : List ℕ → List ℕ
records_in file = section_in file records_section

-- the records of the file that is superseded; a refused pair has none
abbrev pub other_records : Result Superseding Refusal → List ℕ → List ℕ → List ℕ
other_records (Ok (First p)) first second = records_in second
other_records (Ok (Second p)) first second = records_in first
other_records (Err r) first second = []

-- If both files pass the check, the records of the other are the beginning of those handed out.
abbrev pub RecordsBegin : Type 0
RecordsBegin =
    (first second : Bor (List ℕ)) → check_of first.now ≡ Ok true → check_of second.now ≡ Ok true →
    Continues (other_records (which_supersedes first.now second.now) first.now second.now) (superseding_part first second).bytes
