-- The laws of the check and the writer (rule 16.7).
use Rattle.std.specs.Prelude.{ℕ, ◌≤◌, ◌<◌, ◌≡◌, true, List, [], length, get_or, take, None, Ok}
use Rattle.std.proofs.lemmas.List.Edits.{sets}
use Rattle.config.specs.Limits.{records_size, log_size}
use Rattle.phy.specs.Snapshots.{snapshot_room}
use Rattle.rules.specs.Questions.{refusal_for}
use Rattle.metrics.specs.declared.summary.Summary.{Summary}
use Rattle.archive.specs.declared.inputs.Inputs.{Inputs}
use Rattle.archive.specs.Bytes.{AreBytes}
use Rattle.archive.specs.Inputs.{Fitting}
use Rattle.archive.specs.Layout.{section_count, layout, handed_out}
use Rattle.archive_writer.specs.Filed.{network_in, sections_of, blank_outcome, made}
use Rattle.archive_writer.specs.Filing.{filing_for}
use Rattle.archive_check.specs.Check.{asked_in, stored_in, check_of}
use Rattle.archive_check.specs.Again.{again_for}

-- Of a file that keeps the layout, the check is whether running its first section afresh, with as many snapshots stored, gives
-- the other four.
abbrev pub ChecksAgain : Type 0
ChecksAgain =
    (file : List ℕ) → AreBytes file → layout file ≡ true →
    check_of file ≡ Ok (again_for (network_in (asked_in file)) (asked_in file).config file)

-- A file that passes is what the writer files of its first section, into buffers that are long enough and have room for as many
-- snapshots.
pub record FiledAgain (file : List ℕ) : Type 0 where
  pub accepted : refusal_for (network_in (asked_in file)) (asked_in file).config ≡ None
  pub bytes : file ≡ made (asked_in file) (stored_in file)
  pub answer : (logs records snapshots out : List ℕ) → log_size ≤ length logs → records_size ≤ length records → snapshot_room snapshots ≡ stored_in file → length file ≤ length out
      → (filing_for (asked_in file) logs records snapshots out).answer ≡ Ok (length file)
  pub filed : (logs records snapshots out : List ℕ) → log_size ≤ length logs → records_size ≤ length records → snapshot_room snapshots ≡ stored_in file → length file ≤ length out
      → (filing_for (asked_in file) logs records snapshots out).file ≡ sets out 0 file

abbrev pub PassedIsFiled : Type 0
PassedIsFiled = (file : List ℕ) → check_of file ≡ Ok true → FiledAgain file

-- What the writer files passes, and a reader hands its five sections back. The inputs are numbers of 64 bits and an f64.
pub record Passes (x : Inputs) (file : List ℕ) : Type 0 where
  pub passes : check_of file ≡ Ok true
  pub asks : asked_in file ≡ x
  pub summary : Summary
  pub ran : (blank_outcome x (stored_in file)).answer ≡ Ok summary
  pub hands : (i : ℕ) → i < section_count → handed_out file i ≡ get_or (sections_of x summary (blank_outcome x (stored_in file))) i []

abbrev pub FiledPasses : Type 0
FiledPasses =
    (x : Inputs) (logs records snapshots out : List ℕ) (n : ℕ) → Fitting x →
    (filing_for x logs records snapshots out).answer ≡ Ok n →
    Passes x (take n (filing_for x logs records snapshots out).file)
