-- What an entry answers, and the final contents of the lent buffers (rules 1.4, 2.6, 7.1 to 7.5, 9.1 and 9.3).
use Rattle.std.specs.Prelude.{ℕ, zero, suc, ◌+◌, ◌*◌, List, [], ◌∷◌, ◌++◌, map, length, Option, Some, None, Result, Ok, Err}
use Rattle.std.proofs.lemmas.List.Edits.{sets}
use Rattle.config.specs.Limits.{max_terms, log_counts}
use Rattle.network.specs.Graph.{widened}
use Rattle.network.specs.Distance.{diameter}
use Rattle.random.specs.Reception.{heard_at}
use Rattle.phy.specs.declared.node.Node.{Node}
use Rattle.phy.specs.Slot.{sum_of}
use Rattle.phy.specs.Snapshots.{snapshots_with}
use Rattle.protocol.specs.Paxos.{LogEntry, State}
use Rattle.metrics.specs.declared.summary.Summary.{Summary}
use Rattle.config.specs.declared.Config.{Config}
use Rattle.config.specs.declared.refusal.Refusal.{Refusal}
use Rattle.rules.specs.Networks.{RowsOrTopology, of_rows, of_topology, nodes_in, rows_in}
use Rattle.network.specs.Questions.{first_no}
use Rattle.rules.specs.Questions.{run_questions, run_refusal_for}
use Rattle.pipeline.specs.Round.{Record, record_triple, state_of}
use Rattle.rules.specs.Run.{Given, Running, Ended, run}

-- the answer, and what the three buffers hold afterwards
pub record Outcome : Type 0 where
  pub answer : Result Summary Refusal
  pub logs : List ℕ
  pub records : List ℕ
  pub snapshots : List ℕ

-- The summary: nodes, rounds, slots, end; listen, flood, sleep; attempts, successes; flood rounds, flood nodes, covered, took part; NACKs,
-- piggybacks; records, and all snapshots that were taken.
abbrev pub summary_of : Given → Ended → Summary
summary_of g e =
    let r : Running = e.running in
    let rounds : ℕ = length r.rounds in
    record {
      nodes = g.nodes;
      rounds = rounds;
      slots = r.standing.slot;
      ended = e.ended;
      listen = sum_of (λ (v : Node). v.slots_listen) r.standing.nodes g.nodes;
      flood = sum_of (λ (v : Node). v.slots_flood) r.standing.nodes g.nodes;
      sleep = sum_of (λ (v : Node). v.slots_sleep) r.standing.nodes g.nodes;
      attempts = r.standing.attempts;
      successes = r.standing.successes;
      flood_rounds = rounds;
      flood_nodes = g.nodes * rounds;
      covered = r.covered;
      took_part = r.took_part;
      nacks = r.shared.nacks;
      piggybacks = r.shared.piggybacks;
      records = length r.shared.records;
      snapshots = length r.standing.shots.taken;
    }

-- the terms of a log, in order
abbrev pub terms : List LogEntry → List ℕ
terms log = map (λ (e : LogEntry). e.term) log

-- Logs: terms of node i from byte 64i, its count at 2,048 + i; every other byte stays.
unfoldable pub logs_with : List ℕ → List State → ℕ → List ℕ
logs_with old states zero = old
logs_with old states (suc i) =
    let log : List ℕ = terms (state_of states i).log in
    sets (sets (logs_with old states i) (max_terms * i) log) (log_counts + i) (length log ∷ [])

-- the records' numbers, one record after the other
unfoldable pub record_numbers : List Record → List ℕ
record_numbers [] = []
record_numbers (r ∷ rs) = record_triple r ++ record_numbers rs

-- What a run that is not refused gives. Places of the record buffer behind the records stay, and of the snapshots those that fit whole are
-- stored.
unfoldable pub ran_with : Given → List ℕ → List ℕ → List ℕ → Outcome
ran_with g logs records snapshots =
    let e : Ended = run g in
    record {
      answer = Ok (summary_of g e);
      logs = logs_with logs e.running.shared.states g.nodes;
      records = sets records 0 (record_numbers e.running.shared.records);
      snapshots = snapshots_with snapshots e.running.standing.shots.taken;
    }

-- the run of a graph of n nodes with this diameter, whose receptions are those of rule 2.6
abbrev pub given_as : List ℕ → ℕ → ℕ → Config → Given
given_as graph n d c =
    record {
      rows = graph;
      nodes = n;
      diameter = d;
      repeats = c.flood_repeats;
      round_slots = c.round_slots;
      proposals = c.num_proposals;
      interval = c.snapshot_interval;
      limit = c.max_slots;
      heard = heard_at c.loss_rate c.seed;
    }

-- the run of n nodes with these rows
abbrev pub given_of : List ℕ → ℕ → Config → Given
given_of rows n c = let graph : List ℕ = widened rows n in given_as graph n (diameter graph n) c

-- a refusal leaves every buffer as it was
abbrev pub outcome_of : Option Refusal → Given → List ℕ → List ℕ → List ℕ → Outcome
outcome_of None g logs records snapshots = ran_with g logs records snapshots
outcome_of (Some r) g logs records snapshots = record { answer = Err r; logs = logs; records = records; snapshots = snapshots }

-- run of a graph that its own questions let pass: those of the configuration and of the buffers, then the run
abbrev pub run_of_graph : List ℕ → ℕ → ℕ → Config → List ℕ → List ℕ → List ℕ → Outcome
run_of_graph graph n d c logs records snapshots =
    outcome_of (first_no (run_questions c (length logs) (length records))) (given_as graph n d c) logs records snapshots

-- the run that is asked for, by rows or by a topology
abbrev pub given_for : RowsOrTopology → Config → Given
given_for q c = given_of (rows_in q) (nodes_in q) c

unfoldable pub outcome_for : RowsOrTopology → Config → List ℕ → List ℕ → List ℕ → Outcome
outcome_for q c logs records snapshots = outcome_of (run_refusal_for q c (length logs) (length records)) (given_for q c) logs records snapshots

-- run of rows, and run of a topology
abbrev pub run_of_rows : List ℕ → ℕ → Config → List ℕ → List ℕ → List ℕ → Outcome
run_of_rows rows n c logs records snapshots = outcome_for (of_rows rows n) c logs records snapshots

abbrev pub run_of_topology : ℕ → ℕ → ℕ → Config → List ℕ → List ℕ → List ℕ → Outcome
run_of_topology topology first second c logs records snapshots = outcome_for (of_topology topology first second) c logs records snapshots
