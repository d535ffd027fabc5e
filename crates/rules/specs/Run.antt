-- The rounds, the four ends and the run (rules 6.1, 6.2, 6.5, 6.6, 6.9 and 6.10).
use Rattle.std.specs.Prelude.{ℕ, zero, suc, ◌+◌, ◌-◌, ◌*◌, Bool, true, false, cond, ◌&&◌, List, [], ◌∷◌, ◌++◌, leb, ltb, eqb, length, replicate}
use Rattle.config.specs.Limits.{rounds_per_link, extra_rounds, most_rounds}
use Rattle.network.specs.Graph.{all}
use Rattle.phy.specs.declared.packet.Packet.{Packet}
use Rattle.std.specs.Prelude.{Option, None}
use Rattle.phy.specs.Node.{new}
use Rattle.phy.specs.Slot.{Setup, Standing}
use Rattle.phy.specs.Round.{Flooded, took_part_of, length_limit, round}
use Rattle.protocol.specs.Paxos.{State, empty, logged}
use Rattle.pipeline.specs.Round.{Shared, Prepared, state_of, initiator_of, prepare_round, process_round, shortest_log}

-- What a run is given: the rows of the graph, its number of nodes and its diameter, the configuration, and its receptions:
-- whether an attempt is heard, by its number.
pub record Given : Type 0 where
  pub rows : List ℕ
  pub nodes : ℕ
  pub diameter : ℕ
  pub repeats : ℕ
  pub round_slots : Option ℕ
  pub proposals : ℕ
  pub interval : ℕ
  pub limit : ℕ
  pub heard : ℕ → Bool

-- One round that was run: its initiator, where the run stood before it, its packet, and what the flood gave.
pub record Past : Type 0 where
  pub initiator : ℕ
  pub before : Standing
  pub packet : Packet
  pub flooded : Flooded

-- a round's length is the number of its slots
abbrev pub length_of : Past → ℕ
length_of p = p.flooded.after.slot - p.before.slot

-- Where a run stands: the flood's part, the nodes' part, how many nodes were covered and how many took part, both over all rounds, and the
-- rounds that were run.
pub record Running : Type 0 where
  pub standing : Standing
  pub shared : Shared
  pub covered : ℕ
  pub took_part : ℕ
  pub rounds : List Past

-- before the first round
abbrev pub begin : Given → Running
begin g =
    record {
      standing = record { nodes = replicate g.nodes new; attempts = 0; successes = 0; slot = 0; shots = record { next = 0; taken = [] } };
      shared = record { states = replicate g.nodes empty; counter = 0; starts = []; records = []; piggyback = None; nacks = 0; piggybacks = 0 };
      covered = 0;
      took_part = 0;
      rounds = [];
    }

-- the flood's setup: snapshots show the shortest log after the last round
abbrev pub setup_of : Given → Shared → Setup
setup_of g s =
    record { rows = g.rows; nodes = g.nodes; repeats = g.repeats; interval = g.interval; progress = shortest_log s.states g.nodes; heard = g.heard }

-- round k as its initiator has prepared it
abbrev pub prepared_in : Given → ℕ → Running → Prepared
prepared_in g k r = prepare_round g.nodes g.proposals (initiator_of g.nodes k) r.standing.slot r.shared

-- the flood of round k
abbrev pub flooded_in : Given → ℕ → Running → Flooded
flooded_in g k r =
    round (setup_of g r.shared) (length_limit g.round_slots g.diameter g.repeats) (initiator_of g.nodes k)
    (prepared_in g k r).packet r.standing

-- round k as it is kept among the rounds
abbrev pub past_in : Given → ℕ → Running → Past
past_in g k r = record { initiator = initiator_of g.nodes k; before = r.standing; packet = (prepared_in g k r).packet; flooded = flooded_in g k r }

-- Round k: prepare, flood, process.
unfoldable pub run_round : Given → ℕ → Running → Running
run_round g k r =
    let prepared : Prepared = prepared_in g k r in
    let flooded : Flooded = flooded_in g k r in
    record {
      standing = flooded.after;
      shared = process_round g.nodes prepared.packet flooded.after.slot flooded.part prepared.shared;
      covered = r.covered + flooded.covered;
      took_part = r.took_part + took_part_of g.nodes flooded;
      rounds = r.rounds ++ (past_in g k r ∷ []);
    }

-- all logs hold each of the P terms
unfoldable pub complete : ℕ → ℕ → List State → Bool
complete n proposals states = all n (λ (j : ℕ). all proposals (λ (t : ℕ). logged t (state_of states j).log))

-- The ends after round k, tested in order: 1 all logs complete; 2 all P recorded and the round's index above P + 5d; 3 index above P + 1,000.
-- 0 is none of these.
unfoldable pub end_after : Given → ℕ → Running → ℕ
end_after g k r =
    cond (complete g.nodes g.proposals r.shared.states) 1
    (cond (eqb (length r.shared.records) g.proposals && ltb (g.proposals + rounds_per_link * g.diameter) k) 2
    (cond (ltb (g.proposals + extra_rounds) k) 3 0))

-- a run that is over, and the number of its end
pub record Ended : Type 0 where
  pub running : Running
  pub ended : ℕ

-- At most `most` rounds, from index k on. A round starts only below the slot limit; at it the run ends by 4. 0 says that the rounds were
-- used up before an end came.
unfoldable pub rounds_from : Given → ℕ → ℕ → Running → Ended
rounds_from g zero k r = record { running = r; ended = 0 }
rounds_from g (suc most) k r =
    elim (leb g.limit r.standing.slot) [
      | true ↦ record { running = r; ended = 4 }
      | false ↦
          let next : Running = run_round g k r in
          let end : ℕ = end_after g k next in
          elim (eqb end 0) [ true ↦ rounds_from g most (suc k) next | false ↦ record { running = next; ended = end } ]
    ]

-- the run of at most so many rounds
unfoldable pub run_for : Given → ℕ → Ended
run_for g most = rounds_from g most 0 (begin g)

-- The run. By index P + 1,001 an end has come, so P + 1,002 rounds are enough.
abbrev pub run : Given → Ended
run g = run_for g (most_rounds g.proposals)
