-- A sweep: one configuration over a list of seeds (rules 6.12, 7.8, 9.2 and 9.3).
use Rattle.std.specs.Prelude.{ℕ, ◌+◌, ◌*◌, Bool, ◌&&◌, List, [], ◌∷◌, ◌++◌, map, leb, length, Option, Some, None, Result, Ok, Err}
use Rattle.std.proofs.lemmas.List.Edits.{sets}
use Rattle.config.specs.declared.Config.{Config}
use Rattle.config.specs.declared.refusal.Refusal.{Refusal}
use Rattle.metrics.specs.declared.summary.Summary.{Summary}
use Rattle.network.specs.Questions.{first_no}
use Rattle.rules.specs.Networks.{RowsOrTopology, network_questions}
use Rattle.rules.specs.Questions.{config_questions}
use Rattle.rules.specs.Run.{Given, run}
use Rattle.rules.specs.Entries.{summary_of, given_for}

-- ---- a line

abbrev pub swept_size : ℕ
swept_size = 7

-- seven numbers of a run: rounds, slots, listen, flood, sleep, records, end
abbrev pub swept_line : Summary → List ℕ
swept_line s = s.rounds ∷ s.slots ∷ s.listen ∷ s.flood ∷ s.sleep ∷ s.records ∷ s.ended ∷ []

-- the configuration with this seed
abbrev pub with_seed : Config → ℕ → Config
with_seed c seed =
    record {
      flood_repeats = c.flood_repeats;
      round_slots = c.round_slots;
      loss_rate = c.loss_rate;
      seed = seed;
      num_proposals = c.num_proposals;
      snapshot_interval = c.snapshot_interval;
      max_slots = c.max_slots;
    }

-- the summary of a run
unfoldable pub summary_in : Given → Summary
summary_in g = summary_of g (run g)

-- the summary of the run of this seed alone
abbrev pub summary_for : RowsOrTopology → Config → ℕ → Summary
summary_for q c seed = summary_in (given_for q (with_seed c seed))

-- ---- all lines

-- the lines of these runs, one behind the other
unfoldable pub swept_lines : List Summary → List ℕ
swept_lines [] = []
swept_lines (s ∷ runs) = swept_line s ++ swept_lines runs

-- the sum of their rounds
unfoldable pub rounds_of : List Summary → ℕ
rounds_of [] = 0
rounds_of (s ∷ runs) = s.rounds + rounds_of runs

-- ---- what a sweep answers, and what the table then holds

-- the most seeds
abbrev pub max_seeds : ℕ
max_seeds = 65536

-- question 15, for so many seeds and a table of this length
abbrev pub table_questions : ℕ → ℕ → List (Bool × Refusal)
table_questions seeds table = (leb seeds max_seeds && leb (swept_size * seeds) table, Refusal.SweepTable) ∷ []

-- the questions of the configuration, then 15
abbrev pub sweep_questions : Config → ℕ → ℕ → List (Bool × Refusal)
sweep_questions c seeds table = config_questions c ++ table_questions seeds table

-- the refusal of a sweep: the questions of the network, of the configuration, then 15
unfoldable pub sweep_refusal_for : RowsOrTopology → Config → ℕ → ℕ → Option Refusal
sweep_refusal_for q c seeds table = first_no (network_questions q ++ sweep_questions c seeds table)

-- the sweep of these runs: the sum of their rounds, and their lines from the table's first place on; other places stay
abbrev pub swept : List Summary → List ℕ → Result ℕ Refusal × List ℕ
swept runs table = (Ok (rounds_of runs), sets table 0 (swept_lines runs))

-- a refusal leaves the table as it was
abbrev pub swept_unless : Option Refusal → List Summary → List ℕ → Result ℕ Refusal × List ℕ
swept_unless None runs table = swept runs table
swept_unless (Some question) runs table = (Err question, table)

-- the sweep that is asked for, of rows or of a topology; the configuration's own seed is not used
unfoldable pub sweep_for : RowsOrTopology → Config → List ℕ → List ℕ → Result ℕ Refusal × List ℕ
sweep_for q c seeds table = swept_unless (sweep_refusal_for q c (length seeds) (length table)) (map (summary_for q c) seeds) table
