-- What running a file's first section afresh gives for its other four (rule 16.6).
use Rattle.std.specs.Prelude.{ℕ, Bool, false, ◌&&◌, take, replicate, Option, Some, None}
use mathlib.Core.List.{List, flatten}
use Rattle.config.specs.declared.refusal.Refusal.{Refusal}
use Rattle.config.specs.Limits.{log_size}
use Rattle.metrics.specs.Totals.{totals}
use Rattle.config.specs.declared.Config.{Config}
use Rattle.rules.specs.Networks.{RowsOrTopology}
use Rattle.rules.specs.Questions.{refusal_for}
use Rattle.rules.specs.Run.{Given, run}
use Rattle.rules.specs.Entries.{summary_of, logs_with, record_numbers, given_for}
use Rattle.archive.specs.Bytes.{numbers_bytes, same_bytes}
use Rattle.archive.specs.Layout.{section_in}
use Rattle.archive_check.specs.Check.{stored_in}

-- the sections of a run behind the first, with room for so many snapshots
abbrev pub totals_of : Given → List ℕ
totals_of g = numbers_bytes (totals (summary_of g (run g)))

abbrev pub records_of : Given → List ℕ
records_of g = numbers_bytes (record_numbers (run g).running.shared.records)

abbrev pub snapshots_of : ℕ → Given → List ℕ
snapshots_of room g = numbers_bytes (flatten (take room (run g).running.standing.shots.taken))

abbrev pub logs_of : Given → List ℕ
logs_of g = logs_with (replicate log_size 0) (run g).running.shared.states g.nodes

-- The other four sections of the file are those of the run, with as many snapshots stored.
unfoldable pub gives_again : Given → List ℕ → Bool
gives_again g file =
    same_bytes (section_in file 1) (totals_of g)
    && same_bytes (section_in file 2) (records_of g)
    && same_bytes (section_in file 3) (snapshots_of (stored_in file) g)
    && same_bytes (section_in file 4) (logs_of g)

-- so for the network and the configuration of the first section; no where a run refuses them
abbrev pub again_unless : Option Refusal → Given → List ℕ → Bool
again_unless None g file = gives_again g file
again_unless (Some r) g file = false

unfoldable pub again_for : RowsOrTopology → Config → List ℕ → Bool
again_for q c file = again_unless (refusal_for q c) (given_for q c) file
