-- The laws of files and their sections (rule 16.7).
use Rattle.std.specs.Prelude.{ℕ, ◌+◌, ◌^◌, ◌%◌, ◌<◌, ◌≡◌, true, length, get_or}
use mathlib.Core.List.{List, [], ◌∷◌}
use Rattle.config.specs.Limits.{log_size}
use Rattle.archive.specs.Bytes.{AreBytes}
use Rattle.archive.specs.Layout.{section_count, offset_size, first_offset, inputs_size, totals_size, record_bytes, snapshot_bytes, layout, section_in, handed_out}
use Rattle.archive.specs.File.{file_of}

-- five sections that a file can hold: their lengths are the layout's, and each offset has room in its bytes
pub record Fit (inputs totals records snapshots logs : List ℕ) : Type 0 where
  pub inputs_size : length inputs ≡ inputs_size
  pub totals_size : length totals ≡ totals_size
  pub records_size : length records % record_bytes ≡ 0
  pub snapshots_size : length snapshots % snapshot_bytes ≡ 0
  pub logs_size : length logs ≡ log_size
  pub small : first_offset + length (inputs) + length totals + length records + length snapshots + length logs < 256 ^ offset_size

abbrev pub five : List ℕ → List ℕ → List ℕ → List ℕ → List ℕ → List (List ℕ)
five inputs totals records snapshots logs = inputs ∷ totals ∷ records ∷ snapshots ∷ logs ∷ []

-- the file of such sections keeps the layout, and a reader hands them back
pub record HandsBack (sections : List (List ℕ)) : Type 0 where
  pub kept : layout (file_of sections) ≡ true
  pub each : (i : ℕ) → i < section_count → handed_out (file_of sections) i ≡ get_or sections i []

abbrev pub HandedBack : Type 0
HandedBack =
    (inputs totals records snapshots logs : List ℕ) → Fit inputs totals records snapshots logs →
    HandsBack (five inputs totals records snapshots logs)

-- the sections of a file
abbrev pub sections_in : List ℕ → List (List ℕ)
sections_in file = five (section_in file 0) (section_in file 1) (section_in file 2) (section_in file 3) (section_in file 4)

-- every file that keeps the layout is the file of its sections, byte for byte
abbrev pub OfItsSections : Type 0
OfItsSections = (file : List ℕ) → AreBytes file → layout file ≡ true → file ≡ file_of (sections_in file)
