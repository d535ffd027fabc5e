-- What the writer answers, and the final contents of the four lent buffers (rule 16.5).
use Rattle.std.specs.Prelude.{ℕ, Bool, List, [], ◌∷◌, ◌++◌, leb, length, Option, Some, None, Result, Ok, Err}
use Rattle.std.proofs.lemmas.List.Edits.{sets}
use Rattle.config.specs.declared.refusal.Refusal.{Refusal}
use Rattle.network.specs.Questions.{first_no}
use Rattle.phy.specs.Snapshots.{snapshot_room}
use Rattle.rules.specs.Networks.{network_questions}
use Rattle.rules.specs.Questions.{run_questions}
use Rattle.rules.specs.Entries.{Outcome, outcome_for}
use Rattle.archive.specs.declared.inputs.Inputs.{Inputs}
use Rattle.archive_writer.specs.Filed.{network_in, made}

-- question 18: the lent bytes suffice for the file
abbrev pub file_questions : List ℕ → ℕ → List (Bool × Refusal)
file_questions file size = (leb (length file) size, Refusal.ShortFile) ∷ []

-- the questions of a run, then 18, for a file of these bytes and buffers of these lengths
unfoldable pub filing_refusal : Inputs → List ℕ → ℕ → ℕ → ℕ → Option Refusal
filing_refusal x file logs records size =
    first_no (network_questions (network_in x) ++ run_questions x.config logs records ++ file_questions file size)

-- the file's length or the refusal, and what the buffers hold afterwards
pub record Filing : Type 0 where
  pub answer : Result ℕ Refusal
  pub logs : List ℕ
  pub records : List ℕ
  pub snapshots : List ℕ
  pub file : List ℕ

abbrev pub filing : Result ℕ Refusal → List ℕ → List ℕ → List ℕ → List ℕ → Filing
filing a l r s f = record { answer = a; logs = l; records = r; snapshots = s; file = f }

-- the run's buffers as its entry leaves them, and the file at the start of the lent bytes
abbrev pub filed_with : List ℕ → Outcome → List ℕ → Filing
filed_with bytes o file = filing (Ok (length bytes)) o.logs o.records o.snapshots (sets file 0 bytes)

-- a refusal leaves every buffer as it was
abbrev pub filing_unless : Option Refusal → Inputs → List ℕ → List ℕ → List ℕ → List ℕ → Filing
filing_unless None x logs records snapshots file =
    filed_with (made x (snapshot_room snapshots)) (outcome_for (network_in x) x.config logs records snapshots) file
filing_unless (Some r) x logs records snapshots file = filing (Err r) logs records snapshots file

unfoldable pub filing_for : Inputs → List ℕ → List ℕ → List ℕ → List ℕ → Filing
filing_for x logs records snapshots file =
    filing_unless (filing_refusal x (made x (snapshot_room snapshots)) (length logs) (length records) (length file)) x logs records snapshots file
