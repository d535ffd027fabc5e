-- A run of the code between rounds, and what its functions promise.
use Rattle.std.specs.Prelude.{ℕ, ◌+◌, ◌-◌, ◌*◌, ◌≤◌, ◌<◌, ◌≡◌, Bool, List, Option, Some, None, length}
use Rattle.std.proofs.Math.Option as maybe
use Rattle.std.proofs.Math.ListN.{get_elem?}
use Rattle.config.specs.Limits.{max_nodes, max_terms, max_repeats, max_round_slots, most_rounds}
use Rattle.random.specs.Draws.{DrawNext}
use Rattle.random.specs.Reception.{Source}
use Rattle.random.specs.declared.draws.Stream.{Stream}
use Rattle.phy.specs.declared.slot.Settings.{Settings}
use Rattle.phy.specs.declared.slot.Radios.{Radios}
use Rattle.phy.specs.Round.{length_limit}
use Rattle.phy.specs.View.{Tables, tables, Sound, Stands}
use Rattle.protocol.specs.declared.state.PaxosState.{PaxosState}
use Rattle.pipeline.specs.declared.records.History.{History}
use Rattle.pipeline.specs.Round.{shortest_log}
use Rattle.pipeline.specs.View.{AllKept, Blank, states_of, Sharing, shared_of}
use Rattle.rules.specs.Accepted.{Accepted}
use Rattle.rules.specs.Entries.{given_as}
use Rattle.rules.specs.declared.answer.SeenRound.{SeenRound}
use Rattle.rules.specs.Answers.{seen_round, end_number}
use Rattle.rules.specs.Run.{Given, Past, Running, begin, complete, end_after, past_in, run_round, rounds_from, run_for}
use Rattle.rounds.specs.declared.run.Plan.{Plan}
use Rattle.rounds.specs.declared.run.Workspace.{Workspace}
use Rattle.rounds.specs.declared.run.Run.{Run}
use Rattle.rounds.specs.declared.run.Played.{Played}
use Rattle.rounds.specs.declared.run.Next.{Next}
use Rattle.rounds.specs.declared.run.Stopped.{Stopped}
use Rattle.rounds.specs.declared.survey.Surveyed.{Surveyed}

-- the run of a graph that a plan asks for
abbrev pub planned : Plan → Given
planned p = given_as p.network.graph.rows p.network.graph.nodes p.network.diameter p.config

-- the flood's settings, for snapshots that show this progress
abbrev pub settings_of : Plan → ℕ → Settings
settings_of p progress =
    record {
      nodes = p.network.graph.nodes;
      repeats = p.config.flood_repeats;
      interval = p.config.snapshot_interval;
      progress = progress;
      rate = p.config.loss_rate;
    }

-- and its length limit
abbrev pub longest_of : Plan → ℕ
longest_of p = length_limit p.config.round_slots p.network.diameter p.config.flood_repeats

-- What the lent slices hold: the queue of the flooding nodes, the stream of the draws, the Paxos states, the history of the proposals, and
-- the snapshots.
pub record Contents : Type 0 where
  pub queue : List ℕ
  pub stream : Stream
  pub states : List PaxosState
  pub history : History
  pub snapshots : List ℕ

abbrev pub contents_of : List ℕ → Stream → List PaxosState → History → List ℕ → Contents
contents_of queue stream states history snapshots =
    record { queue = queue; stream = stream; states = states; history = history; snapshots = snapshots }

-- what the code's workspace and the tables that are lent to it hold
abbrev pub contents : Workspace → Contents
contents w = contents_of w.queue w.stream w.states.now w.history.now w.snapshots.now

-- the tables that are lent to it are the same as before
pub record SameTables (before after : Workspace) : Type 0 where
  pub states : after.states.ghost_name ≡ before.states.ghost_name
  pub history : after.history.ghost_name ≡ before.history.ghost_name
  pub snapshots : after.snapshots.ghost_name ≡ before.snapshots.ghost_name

-- what of it a flood is lent
abbrev pub lent_of : Contents → Tables
lent_of w = tables w.queue w.stream w.snapshots

-- ---- between rounds

-- The code at x with the workspace w shows where the run of the definitions stands. Before the first snapshot that is stored their buffer was
-- b₀.
pub record Shows (p : Plan) (x : Run) (w : Contents) (b₀ : List ℕ) (s : Running) : Type 0 where
  pub standing : Stands p.network.graph.nodes x.flood b₀ w.snapshots s.standing
  pub shared : shared_of p.network.graph.nodes x.carry w.states w.history ≡ s.shared
  pub took_part : x.took_part ≡ s.took_part

-- What holds of the code's own numbers after k rounds of a run with these receptions.
pub record Steady (heard : ℕ → Bool) (p : Plan) (k : ℕ) (x : Run) (w : Contents) : Type 0 where
  pub sound : Sound (settings_of p 0) x.flood
  pub sharing : Sharing p.network.graph.nodes x.carry w.states w.history
  pub source : Source p.config.loss_rate heard x.flood.attempts w.stream
  pub room : p.config.flood_repeats ≤ length w.queue
  pub slots : x.flood.slot.0 ≤ max_round_slots * k
  pub took_part : x.took_part ≤ max_nodes * k
  pub nacks : x.carry.nacks ≤ k
  pub piggybacks : x.carry.piggybacks ≤ max_nodes * k

-- After k rounds the code stands at x and the run of the definitions at s; snapshots show the progress. The packets that nodes hold, and
-- the covered nodes, stand in the definitions alone.
pub record Going (p : Plan) (k : ℕ) (x : Run) (w : Contents) (b₀ : List ℕ) (s : Running) : Type 0 where
  pub shows : Shows p x w b₀ s
  pub steady : Steady (planned p).heard p k x w
  pub rounds : length s.rounds ≡ k
  pub progress : x.progress ≡ shortest_log s.shared.states p.network.graph.nodes

-- ---- one round

-- round k can be played from x
pub record CanPlay (p : Plan) (k : ℕ) (x : Run) (w : Contents) : Type 0 where
  pub accepted : Accepted (planned p)
  pub early : k < most_rounds max_terms
  pub first : List ℕ
  pub here : Running
  pub going : Going p k x w first here

-- round k was played: the code came from x and w to r and w', and the definitions from s to their own round
pub record Plays (p : Plan) (k : ℕ) (x : Run) (w : Contents) (r : Played) (w' : Contents) : Type 0 where
  pub steady : Steady (planned p).heard p (k + 1) r.run w'
  pub shows : (b₀ : List ℕ) (s : Running) → Going p k x w b₀ s → Shows p r.run w' b₀ (run_round (planned p) k s)
  pub round : (b₀ : List ℕ) (s : Running) → Going p k x w b₀ s → r.round ≡ seen_round (past_in (planned p) k s)
  pub first : r.run.flood.first_stored ≡ x.flood.first_stored

-- Round k was played, and it is known how far the logs are after it: so one round more can be played from r. Its end is the definitions' own.
pub record MovesOn (p : Plan) (k : ℕ) (x : Run) (w : Contents) (r : Next) (w' : Contents) : Type 0 where
  pub going : (b₀ : List ℕ) (s : Running) → Going p k x w b₀ s → Going p (k + 1) r.played.run w' b₀ (run_round (planned p) k s)
  pub round : (b₀ : List ℕ) (s : Running) → Going p k x w b₀ s → r.played.round ≡ seen_round (past_in (planned p) k s)
  pub ended : (b₀ : List ℕ) (s : Running) → Going p k x w b₀ s → end_number r.ended ≡ end_after (planned p) k (run_round (planned p) k s)
  pub first : r.played.run.flood.first_stored ≡ x.flood.first_stored

-- ---- the logs

-- the logs of n nodes can be looked at, for so many proposals
pub record CanSurvey (n proposals : ℕ) (states : List PaxosState) : Type 0 where
  pub kept : AllKept max_terms n states
  pub some : 1 ≤ n
  pub few : n ≤ max_nodes
  pub most : proposals ≤ max_terms

-- the length of the shortest log, and whether all logs hold every proposal
pub record Surveys (n proposals : ℕ) (states : List PaxosState) (r : Surveyed) : Type 0 where
  pub shortest : r.shortest ≡ shortest_log (states_of n states) n
  pub complete : r.complete ≡ complete n proposals (states_of n states)

-- ---- the rounds

-- at most so many rounds can be played over tables that are blank
pub record CanStart (p : Plan) (most : ℕ) (states : List PaxosState) (history : History) : Type 0 where
  pub accepted : Accepted (planned p)
  pub few : most ≤ most_rounds max_terms
  pub blank : Blank p.network.graph.nodes states history

-- and so with the other tables
pub record CanGo (p : Plan) (most : ℕ) (w : Contents) : Type 0 where
  pub begins : CanStart p most w.states w.history
  pub stream : DrawNext p.config.seed 0 w.stream
  pub room : p.config.flood_repeats ≤ length w.queue

-- the last of the rounds that a run may have, or none
abbrev pub last_round : maybe.Option Past → Option SeenRound
last_round maybe.none = None
last_round (maybe.some p) = Some (seen_round p)

-- Of a run that may take `most` rounds, k are played, and the definitions stand here.
pub record Underway (p : Plan) (most k : ℕ) (x : Run) (w : Contents) (b₀ : List ℕ) (here : Running) : Type 0 where
  pub going : Going p k x w b₀ here
  pub rest : rounds_from (planned p) (most - k) k here ≡ run_for (planned p) most
  pub in_time : k ≤ most - 1

-- The code's rounds have stopped where those of the definitions do.
pub record Goes (p : Plan) (most : ℕ) (r : Stopped) (b₀ : List ℕ) (w : Contents) : Type 0 where
  pub shows : Shows p r.run w b₀ (run_for (planned p) most).running
  pub steady : Steady (planned p).heard p r.rounds r.run w
  pub rounds : length (run_for (planned p) most).running.rounds ≡ r.rounds
  pub last : r.last ≡ last_round (get_elem? (run_for (planned p) most).running.rounds (most - 1))
  pub ended : end_number r.ended ≡ (run_for (planned p) most).ended
  pub few : r.rounds ≤ most

-- and so with the states, the history and the snapshots alone, of which all were stored that fit
pub record Stops (p : Plan) (most : ℕ) (r : Stopped) (b₀ : List ℕ) (states : List PaxosState) (history : History) (snapshots : List ℕ) : Type 0 where
  pub queue : List ℕ
  pub stream : Stream
  pub goes : Goes p most r b₀ (contents_of queue stream states history snapshots)
  pub all : r.run.flood.first_stored ≡ 0

-- ---- before the first round

-- the radios before the first round
pub record NewRadios (n : ℕ) (x : Radios) : Type 0 where
  pub stands : (g : Given) (b : List ℕ) → g.nodes ≡ n → Stands n x b b (begin g).standing
  pub sound : (g : Settings) → g.nodes ≡ n → 1 ≤ g.repeats → g.repeats ≤ max_repeats → 1 ≤ g.interval → Sound g x
  pub first : x.slot.0 ≡ 0
  pub untried : x.attempts ≡ 0
  pub all : x.first_stored ≡ 0

-- a run before the first round
pub record NewRun (n : ℕ) (x : Run) : Type 0 where
  pub flood : NewRadios n x.flood
  pub shared : (g : Given) (b : List PaxosState) (t : History) → g.nodes ≡ n → Blank n b t → shared_of n x.carry b t ≡ (begin g).shared
  pub sharing : (b : List PaxosState) (t : History) → Blank n b t → Sharing n x.carry b t
  pub took_part : x.took_part ≡ 0
  pub progress : x.progress ≡ 0
  pub nacks : x.carry.nacks ≡ 0
  pub piggybacks : x.carry.piggybacks ≡ 0
