-- The run with its buffers: what it needs, and its summary from what the code counted.
use Rattle.std.specs.Prelude.{ℕ, ◌*◌, ◌≤◌, List, ◌≡◌, length}
use Rattle.config.specs.Limits.{max_terms, log_size, records_size}
use Rattle.metrics.specs.declared.summary.Summary.{Summary}
use Rattle.protocol.specs.declared.state.PaxosState.{PaxosState}
use Rattle.pipeline.specs.View.{AllKept, states_of}
use Rattle.rules.specs.Accepted.{Accepted}
use Rattle.rules.specs.Answers.{ran, end_number}
use Rattle.rules.specs.Entries.{ran_with}
use Rattle.rounds.specs.declared.run.Plan.{Plan}
use Rattle.rounds.specs.declared.run.Stopped.{Stopped}
use Rattle.rules.specs.Run.{run}
use Rattle.rounds.specs.Going.{planned, Contents, Shows}

-- an accepted run whose buffers are long enough
pub record CanFill (p : Plan) (logs records : List ℕ) : Type 0 where
  pub accepted : Accepted (planned p)
  pub logs_long : log_size ≤ length logs
  pub records_long : records_size ≤ length records

-- the run over a table of states: its buffers are as its entry leaves them, and the table shows the states that it ends with
pub record Fills (p : Plan) (logs records snapshots : List ℕ) (s : Summary) (states' : List PaxosState) (logs' records' snapshots' : List ℕ) : Type 0 where
  pub buffers : ran s logs' records' snapshots' ≡ ran_with (planned p) logs records snapshots
  pub kept : AllKept max_terms p.network.graph.nodes states'
  pub states : states_of p.network.graph.nodes states' ≡ (run (planned p)).running.shared.states

-- the code's rounds have stopped where the run's end
pub record Over (p : Plan) (r : Stopped) (b₀ : List ℕ) (w : Contents) : Type 0 where
  pub shows : Shows p r.run w b₀ (run (planned p)).running
  pub rounds : length (run (planned p)).running.rounds ≡ r.rounds
  pub ended : end_number r.ended ≡ (run (planned p)).ended

-- The summary of a run that has stopped, from what the code counted. As many nodes are covered as took part (`SameCounts`).
abbrev pub summary_from : ℕ → Stopped → Summary
summary_from n e =
    record {
      nodes = n;
      rounds = e.rounds;
      slots = e.run.flood.slot.0;
      ended = end_number e.ended;
      listen = e.run.flood.slots_listen;
      flood = e.run.flood.slots_flood;
      sleep = e.run.flood.slots_sleep;
      attempts = e.run.flood.attempts;
      successes = e.run.flood.successes;
      flood_rounds = e.rounds;
      flood_nodes = n * e.rounds;
      covered = e.run.took_part;
      took_part = e.run.took_part;
      nacks = e.run.carry.nacks;
      piggybacks = e.run.carry.piggybacks;
      records = e.run.carry.recorded.count;
      snapshots = e.run.flood.snapshots;
    }
