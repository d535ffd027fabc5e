-- What the entries for archive files return, and the final contents of the lent slices (rules 16.8 and 17.6).
use Rattle.std.specs.Prelude.{ℕ, cond, List, leb, length, Result}
use Rattle.config.specs.declared.Config.{Config}
use Rattle.config.specs.Refusals.{number_of}
use Rattle.config.specs.declared.refusal.Refusal.{Refusal}
use Rattle.archive.specs.declared.inputs.Inputs.{Inputs}
use Rattle.archive.specs.Layout.{parts_size, parts_told}
use Rattle.archive_writer.specs.Filing.{Filing, filing_for}
use Rattle.archive_supersede.specs.Supersede.{which_supersedes}
use Rattle.marshal.specs.Numbers.{number_result}
use Rattle.marshal.specs.Files.{place_size, superseding_result}
use Rattle.marshal.specs.Numbers.{done_result}
use Rattle.capi.specs.Capi.{short}

-- the inputs of a call
abbrev pub inputs_from : ℕ → ℕ → ℕ → Config → Inputs
inputs_from topology first second c = record { topology = topology; first = first; second = second; config = c }

-- the writer's result, and what the slices hold afterwards
pub record ReturnedFile : Type 0 where
  pub result : ℕ
  pub logs : List ℕ
  pub records : List ℕ
  pub snapshots : List ℕ
  pub file : List ℕ
  pub written : List ℕ

abbrev pub returned_file : ℕ → List ℕ → List ℕ → List ℕ → List ℕ → List ℕ → ReturnedFile
returned_file k l r s f w = record { result = k; logs = l; records = r; snapshots = s; file = f; written = w }

abbrev pub returned_as : Filing → List ℕ → ReturnedFile
returned_as f written =
    let r = number_result number_of f.answer written in returned_file r.0 f.logs f.records f.snapshots f.file r.1

unfoldable pub returned_filing : Inputs → List ℕ → List ℕ → List ℕ → List ℕ → List ℕ → ReturnedFile
returned_filing x logs records snapshots file written =
    cond (leb 1 (length written)) (returned_as (filing_for x logs records snapshots file) written) (returned_file short logs records snapshots file written)

-- the reader's result, and the slice of the sections' offsets and lengths
abbrev pub told_result : Result (Unit {0}) Refusal × List ℕ → ℕ × List ℕ
told_result (answer, parts) = (done_result number_of answer, parts)

unfoldable pub returned_sections : List ℕ → List ℕ → ℕ × List ℕ
returned_sections file parts = cond (leb parts_size (length parts)) (told_result (parts_told file parts)) (short, parts)

-- the result for two files, and the slice of the part's numbers
unfoldable pub returned_part : List ℕ → List ℕ → List ℕ → ℕ × List ℕ
returned_part first second part = cond (leb place_size (length part)) (superseding_result number_of (which_supersedes first second) part) (short, part)
