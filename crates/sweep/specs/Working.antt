-- What the functions of a sweep promise.
use Rattle.std.specs.Prelude.{ℕ, ◌*◌, ◌≤◌, ◌≡◌, List, map, length, take}
use Rattle.std.proofs.lemmas.List.Edits.{sets}
use Rattle.config.specs.Limits.{max_terms, most_rounds}
use Rattle.metrics.specs.declared.summary.Summary.{Summary}
use Rattle.protocol.specs.declared.state.PaxosState.{PaxosState}
use Rattle.pipeline.specs.declared.records.History.{History}
use Rattle.pipeline.specs.View.{Blank}
use Rattle.rules.specs.Accepted.{Accepted}
use Rattle.rounds.specs.declared.run.Plan.{Plan}
use Rattle.rounds.specs.Going.{planned}
use Rattle.sweep.specs.Sweep.{swept_size, max_seeds, with_seed, summary_in, swept_lines, rounds_of}

-- the plan of the run of this seed, and that run's summary
abbrev pub plan_with : Plan → ℕ → Plan
plan_with p seed = record { network = p.network; config = with_seed p.config seed }

abbrev pub summary_with : Plan → ℕ → Summary
summary_with p seed = summary_in (planned (plan_with p seed))

-- the run of this seed is done: its summary, and the tables blank for the next
pub record RunsSeed (p : Plan) (seed : ℕ) (r : Summary) (states : List PaxosState) (history : History) : Type 0 where
  pub summary : r ≡ summary_with p seed
  pub few : r.rounds ≤ most_rounds max_terms
  pub blank : Blank p.network.graph.nodes states history

-- a sweep of a graph, let pass by its questions
pub record CanSweep (p : Plan) (seeds table : List ℕ) : Type 0 where
  pub accepted : Accepted (planned p)
  pub few : length seeds ≤ max_seeds
  pub room : swept_size * length seeds ≤ length table

-- these seeds were swept: the sum of the rounds, and the table with the lines
pub record Sweeps (p : Plan) (seeds table : List ℕ) (rounds : ℕ) (table' : List ℕ) : Type 0 where
  pub sum : rounds ≡ rounds_of (map (summary_with p) seeds)
  pub lines : table' ≡ sets table 0 (swept_lines (map (summary_with p) seeds))

-- the first i seeds were swept
pub record SweptTo (p : Plan) (seeds table : List ℕ) (i rounds : ℕ) (states : List PaxosState) (history : History) (table' : List ℕ) : Type 0 where
  pub within : i ≤ length seeds
  pub few : rounds ≤ most_rounds max_terms * i
  pub sweeps : Sweeps p (take i seeds) table rounds table'
  pub blank : Blank p.network.graph.nodes states history
