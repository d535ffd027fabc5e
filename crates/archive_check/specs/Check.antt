-- The check of a file (rule 16.6).
use Rattle.std.specs.Prelude.{ℕ, ◌/◌, Bool, false, cond, List, Option, Some, None, Result, Ok, Err}
use Rattle.config.specs.declared.refusal.Refusal.{Refusal}
use Rattle.rules.specs.Questions.{refusal_for}
use Rattle.archive.specs.declared.inputs.Inputs.{Inputs}
use Rattle.archive.specs.Bytes.{same_bytes}
use Rattle.archive.specs.Inputs.{inputs_in}
use Rattle.archive.specs.Layout.{snapshot_bytes, length_in, layout, section_in}
use Rattle.archive_writer.specs.Filed.{network_in, made}

-- what a file's first section asks for, and how many snapshots the file has stored
abbrev pub asked_in : List ℕ → Inputs
asked_in file = inputs_in (section_in file 0)

abbrev pub stored_in : List ℕ → ℕ
stored_in file = length_in file 3 / snapshot_bytes

-- Yes where the file is, byte for byte, what the writer makes of its first section with room for as many snapshots. No, too,
-- where a run refuses the first section.
abbrev pub checked_unless : Option Refusal → List ℕ → Bool
checked_unless None file = same_bytes file (made (asked_in file) (stored_in file))
checked_unless (Some r) file = false

-- 17 where the file breaks the layout
unfoldable pub check_of : List ℕ → Result Bool Refusal
check_of file =
    let x : Inputs = asked_in file in
    cond (layout file) (Ok (checked_unless (refusal_for (network_in x) x.config) file)) (Err Refusal.BrokenLayout)
