-- What the functions of the writer promise.
use Rattle.std.specs.Prelude.{ℕ, ◌+◌, ◌*◌, ◌≤◌, min, ◌≡◌, not, T, length, take, replicate}
use mathlib.Core.List.{List, [], ◌∷◌, ◌++◌, flatten}
use Rattle.std.specs.Float.Ieee.{is_nan}
use Rattle.std.proofs.lemmas.List.Edits.{sets}
use Rattle.config.specs.Limits.{max_terms, max_round_slots, most_rounds, record_size, records_size, log_size}
use Rattle.metrics.specs.declared.summary.Summary.{Summary}
use Rattle.metrics.specs.Totals.{totals}
use Rattle.phy.specs.Snapshots.{snapshot_room}
use Rattle.rules.specs.Accepted.{Accepted}
use Rattle.rules.specs.Answers.{ran}
use Rattle.rules.specs.Run.{Given, Ended, run}
use Rattle.rules.specs.Entries.{summary_of, logs_with, record_numbers, ran_with}
use Rattle.rounds.specs.declared.run.Plan.{Plan}
use Rattle.rounds.specs.Going.{planned}
use Rattle.archive.specs.declared.inputs.Inputs.{Inputs}
use Rattle.archive.specs.Bytes.{bytes_of, numbers_bytes}
use Rattle.archive.specs.Inputs.{input_numbers}
use Rattle.archive.specs.Layout.{marker, offset_size, first_offset, inputs_size, totals_size, record_bytes, snapshot_bytes}
use Rattle.archive.specs.File.{file_of}
use Rattle.archive.specs.Laws.{five}

-- ---- the file of a run

-- The sections of a run with room for so many snapshots, from what the run itself gives. Its logs are laid over these bytes.
abbrev pub sections_over : List ℕ → Inputs → Given → ℕ → List (List ℕ)
sections_over logs x g room =
    let e : Ended = run g in
    five (numbers_bytes (input_numbers x)) (numbers_bytes (totals (summary_of g e))) (numbers_bytes (record_numbers e.running.shared.records))
    (numbers_bytes (flatten (take room e.running.standing.shots.taken))) (logs_with logs e.running.shared.states g.nodes)

-- its file
abbrev pub file_over : List ℕ → Inputs → Given → ℕ → List ℕ
file_over logs x g room = file_of (sections_over logs x g room)

abbrev pub file_of_run : Inputs → Given → ℕ → List ℕ
file_of_run x g room = file_over (replicate log_size 0) x g room

abbrev pub summary_in : Given → Summary
summary_in g = summary_of g (run g)

-- where the totals and the records begin
abbrev pub totals_at : ℕ
totals_at = first_offset + inputs_size

abbrev pub records_at : ℕ
records_at = totals_at + totals_size

-- the length of a file of so many records and snapshots
abbrev pub file_length : ℕ → ℕ → ℕ
file_length records snapshots = records_at + record_bytes * records + snapshot_bytes * snapshots + log_size

-- and of a run's file with room for so many snapshots
abbrev pub length_with : Summary → ℕ → ℕ
length_with s room = file_length s.records (min room s.snapshots)

-- the most snapshots of a run: one in each slot
abbrev pub most_snapshots : ℕ
most_snapshots = most_rounds max_terms * max_round_slots

-- the counts that a file's length goes by are bounded
pub record Low (s : Summary) : Type 0 where
  pub few_records : s.records ≤ max_terms
  pub few_snapshots : s.snapshots ≤ most_snapshots

-- ---- the bytes

-- a pair of the directory
abbrev pub pair_of : ℕ → ℕ → List ℕ
pair_of offset size = bytes_of offset_size offset ++ bytes_of offset_size size

-- the pairs of sections of these lengths, of which the first begins at this offset
abbrev pub pairs_of : ℕ → List ℕ → List ℕ
pairs_of at [] = []
pairs_of at (n ∷ ns) = pair_of at n ++ pairs_of (at + n) ns

-- the first byte and the directory of a file, for so many bytes of records and of snapshots
abbrev pub head_of : ℕ → ℕ → List ℕ
head_of records snapshots = marker ∷ pairs_of first_offset (inputs_size ∷ totals_size ∷ records ∷ snapshots ∷ log_size ∷ [])

-- inputs and a run's summary whose file finds room, with buffers that hold what the summary counts
pub record CanPut (x : Inputs) (s : Summary) (records snapshots logs file : List ℕ) : Type 0 where
  pub rate : T (not (is_nan x.config.loss_rate))
  pub low : Low s
  pub recorded : record_size * s.records ≤ length records
  pub logged : length logs ≡ log_size
  pub room : length_with s (snapshot_room snapshots) ≤ length file

-- a file stands at the start of the lent bytes
pub record Laid (bytes file : List ℕ) (size : ℕ) (file' : List ℕ) : Type 0 where
  pub sized : size ≡ length bytes
  pub contents : file' ≡ sets file 0 bytes

-- ---- the run

-- an accepted run whose counts are bounded
pub record CanCount (p : Plan) : Type 0 where
  pub accepted : Accepted (planned p)
  pub low : Low (summary_in (planned p))

-- buffers and lent bytes that are long enough for it
pub record CanFile (p : Plan) (x : Inputs) (logs records snapshots file : List ℕ) : Type 0 where
  pub counts : CanCount p
  pub rate : T (not (is_nan x.config.loss_rate))
  pub logs_long : log_size ≤ length logs
  pub records_long : records_size ≤ length records
  pub file_long : length_with (summary_in (planned p)) (snapshot_room snapshots) ≤ length file

-- the run was filed: its buffers are as its entry leaves them, and its file stands at the start of the lent bytes
pub record Files (p : Plan) (x : Inputs) (logs records snapshots file : List ℕ) (size : ℕ) (logs' records' snapshots' file' : List ℕ) : Type 0 where
  pub buffers : ran (summary_in (planned p)) logs' records' snapshots' ≡ ran_with (planned p) logs records snapshots
  pub laid : Laid (file_of_run x (planned p) (snapshot_room snapshots)) file size file'
