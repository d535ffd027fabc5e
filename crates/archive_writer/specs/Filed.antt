-- The file of a run of a named topology (rules 16.3 and 16.4).
use Rattle.std.specs.Prelude.{ℕ, ◌*◌, min, List, [], take, replicate, Result, Ok, Err}
use Rattle.config.specs.declared.refusal.Refusal.{Refusal}
use Rattle.config.specs.Limits.{record_size, records_size, snapshot_size, log_size}
use Rattle.metrics.specs.declared.summary.Summary.{Summary}
use Rattle.metrics.specs.Totals.{totals}
use Rattle.phy.specs.Snapshots.{snapshot_room}
use Rattle.rules.specs.Networks.{RowsOrTopology, of_topology}
use Rattle.rules.specs.Entries.{Outcome, outcome_for}
use Rattle.archive.specs.declared.inputs.Inputs.{Inputs}
use Rattle.archive.specs.Bytes.{numbers_bytes}
use Rattle.archive.specs.Inputs.{input_numbers}
use Rattle.archive.specs.File.{file_of}
use Rattle.archive.specs.Laws.{five}

-- the topology that the inputs name
abbrev pub network_in : Inputs → RowsOrTopology
network_in x = of_topology x.topology x.first x.second

-- the numbers of a buffer that a run with this summary has used: those of its records, and those of its stored snapshots
abbrev pub used_records : Summary → List ℕ → List ℕ
used_records s records = take (record_size * s.records) records

abbrev pub used_snapshots : Summary → List ℕ → List ℕ
used_snapshots s snapshots = take (snapshot_size * min (snapshot_room snapshots) s.snapshots) snapshots

-- The five sections: inputs, totals, records, stored snapshots, and the log buffer.
abbrev pub sections_of : Inputs → Summary → Outcome → List (List ℕ)
sections_of x s o =
    five (numbers_bytes (input_numbers x)) (numbers_bytes (totals s)) (numbers_bytes (used_records s o.records))
    (numbers_bytes (used_snapshots s o.snapshots)) o.logs

-- the file of an outcome; a run that was refused has none
abbrev pub filed_as : Inputs → Outcome → Result Summary Refusal → List ℕ
filed_as x o (Ok s) = file_of (sections_of x s o)
filed_as x o (Err r) = []

unfoldable pub filed : Inputs → Outcome → List ℕ
filed x o = filed_as x o o.answer

-- the run of the inputs into buffers of zeros, with room for so many snapshots
abbrev pub blank_outcome : Inputs → ℕ → Outcome
blank_outcome x room =
    outcome_for (network_in x) x.config (replicate log_size 0) (replicate records_size 0) (replicate (snapshot_size * room) 0)

-- what the writer makes of the inputs with room for so many snapshots
abbrev pub made : Inputs → ℕ → List ℕ
made x room = filed x (blank_outcome x room)
