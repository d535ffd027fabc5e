-- What the program writes for what it reads (rules 9.3, 10.1 and 11.2).
use Rattle.std.specs.Prelude.{ℕ, List, replicate, Result, Ok, Err}
use Rattle.config.specs.Limits.{log_size, records_size, listed_size}
use Rattle.config.specs.Refusals.{number_of}
use Rattle.config.specs.declared.refusal.Refusal.{Refusal}
use Rattle.line.specs.declared.read.Line.{Line}
use Rattle.line.specs.Configured.{config_of}
use Rattle.line.specs.Line.{read_line}
use Rattle.listing.specs.Listing.{listing, refusal_text}
use Rattle.metrics.specs.declared.summary.Summary.{Summary}
use Rattle.rules.specs.Entries.{Outcome, run_of_topology}

-- `refused N`, or the listing of the run and its buffers
abbrev pub answer_text : Result Summary Refusal → List ℕ → List ℕ → List ℕ → List ℕ
answer_text (Ok s) logs records snapshots = listing s records snapshots logs
answer_text (Err r) logs records snapshots = refusal_text (number_of r)

abbrev pub outcome_text : Outcome → List ℕ
outcome_text o = answer_text o.answer o.logs o.records o.snapshots

-- the run of the topology that a line asks for, with buffers of zeros; at most 1,000 snapshots are stored
unfoldable pub line_text : Line → List ℕ
line_text l =
    outcome_text
    (run_of_topology l.topology l.first l.second (config_of l) (replicate log_size 0) (replicate records_size 0) (replicate listed_size 0))

-- question 12: is the line readable?
abbrev pub read_text : Result Line Refusal → List ℕ
read_text (Ok l) = line_text l
read_text (Err r) = refusal_text (number_of r)

-- the answer to these bytes of input
unfoldable pub printed : List ℕ → List ℕ
printed input = read_text (read_line input)
