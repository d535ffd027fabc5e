-- The results of the check of archive files, and of which of two supersedes (rules 9.4, 16.8 and 17.6).
use Rattle.std.specs.Prelude.{ℕ, Bool, true, false, List, [], ◌∷◌, Result, Ok, Err}
use Rattle.std.proofs.lemmas.List.Edits.{sets}
use Rattle.archive_supersede.specs.declared.Place.{Place}
use Rattle.archive_supersede.specs.declared.Superseding.{Superseding}

-- the check's: 0 is yes
abbrev pub checked_no : ℕ
checked_no = 102

abbrev pub check_result : {R : Type 0} → (R → ℕ) → Result Bool R → ℕ
check_result number (Ok true) = 0
check_result number (Ok false) = checked_no
check_result number (Err r) = number r

-- which of two files it is, 0 the first and 1 the second, with offset and length of its part
abbrev pub place_size : ℕ
place_size = 3

abbrev pub place_numbers : ℕ → Place → List ℕ
place_numbers file p = file ∷ p.offset ∷ p.length ∷ []

-- the result for two files, and the slice of these three numbers
abbrev pub superseding_result : {R : Type 0} → (R → ℕ) → Result Superseding R → List ℕ → ℕ × List ℕ
superseding_result number (Ok (Superseding.First p)) part = (0, sets part 0 (place_numbers 0 p))
superseding_result number (Ok (Superseding.Second p)) part = (0, sets part 0 (place_numbers 1 p))
superseding_result number (Err r) part = (number r, part)
