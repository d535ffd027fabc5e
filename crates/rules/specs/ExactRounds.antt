-- Demand 3 (rules 12.3 and 12.4): what an accepted run is in which no attempt is lost. P are the proposals, n the nodes, d the diameter
-- and r the repeats; e is the greatest distance from the node that starts a round.
use Rattle.std.specs.Prelude.{ℕ, zero, suc, ◌+◌, ◌-◌, ◌*◌, ◌/◌, ◌≤◌, ◌<◌, List, ◌≡◌, length, get_or}
use Rattle.std.proofs.Math.Option.{some}
use Rattle.std.proofs.Math.ListN.{get_elem?}
use Rattle.config.specs.Limits.{max_terms, record_size, log_counts}
use Rattle.network.specs.Distance.{links, distance, eccentricity, Joined}
use Rattle.random.specs.Table.{tabulate}
use Rattle.phy.specs.declared.node.Node.{Node}
use Rattle.std.specs.Prelude.{Option, Some, None}
use Rattle.phy.specs.Slot.{at}
use Rattle.metrics.specs.declared.summary.Summary.{Summary}
use Rattle.config.specs.declared.Config.{Config}
use Rattle.std.specs.Prelude.{Ok}
use Rattle.pipeline.specs.Round.{state_of, initiator_of}
use Rattle.rules.specs.Run.{Given, Past, Ended, length_of, run}
use Rattle.rules.specs.Networks.{RowsOrTopology}
use Rattle.rules.specs.Entries.{terms, given_for, outcome_for}

-- ---- the sums that the rounds come to

-- f 0 + f 1 + .. + f (n - 1)
unfoldable pub sum : ℕ → (ℕ → ℕ) → ℕ
sum zero f = 0
sum (suc n) f = sum n f + f n

-- the distance of node j from the node that starts round k, and the greatest such distance e
abbrev pub distance_in : Given → ℕ → ℕ → ℕ
distance_in g k j = links (distance g.rows g.nodes (initiator_of g.nodes k) j)

abbrev pub farthest : Given → ℕ → ℕ
farthest g k = eccentricity g.rows g.nodes (initiator_of g.nodes k)

-- round k lasts e + r slots
abbrev pub slots_in : Given → ℕ → ℕ
slots_in g k = farthest g k + g.repeats

-- the first slot of round k: the summed length of the rounds before it
abbrev pub first_slot : Given → ℕ → ℕ
first_slot g k = sum k (slots_in g)

-- how many rounds: P + floor(n/2)
abbrev pub rounds_of : Given → ℕ
rounds_of g = g.proposals + g.nodes / 2

-- ---- one round

-- node j's count grew by m in a round
abbrev pub Grew : (Node → ℕ) → Past → ℕ → ℕ → Type 0
Grew f p j m = f (at p.flooded.after.nodes j) ≡ f (at p.before.nodes j) + m

-- Round k lasts e + r slots, and a node at distance x from its initiator listens x, floods r and sleeps e - x of them.
pub record ExactRound (g : Given) (k : ℕ) (p : Past) : Type 0 where
  pub initiator : p.initiator ≡ initiator_of g.nodes k
  pub length : length_of p ≡ farthest g k + g.repeats
  pub listens : (j : ℕ) → j < g.nodes → Grew (λ (v : Node). v.slots_listen) p j (distance_in g k j)
  pub floods : (j : ℕ) → j < g.nodes → Grew (λ (v : Node). v.slots_flood) p j g.repeats
  pub sleeps : (j : ℕ) → j < g.nodes → Grew (λ (v : Node). v.slots_sleep) p j (farthest g k - distance_in g k j)

-- ---- records and logs

-- Record t in the buffer: its id is t, it starts at the first slot of round t and ends at that of round t + floor(n/2). So its latency is
-- the summed length of rounds t to t + floor(n/2) - 1.
pub record ExactRecord (g : Given) (records : List ℕ) (t : ℕ) : Type 0 where
  pub id : get_or records (record_size * t) 0 ≡ t
  pub start : get_or records (record_size * t + 1) 0 ≡ first_slot g t
  pub end : get_or records (record_size * t + 2) 0 ≡ first_slot g (t + g.nodes / 2)
  pub latency : get_or records (record_size * t + 2) 0 - get_or records (record_size * t + 1) 0 ≡ sum (g.nodes / 2) (λ (i : ℕ). slots_in g (t + i))

-- Node j's log after the run holds exactly the terms 0 to P - 1, in order; in the buffer its count is P and its terms are those.
pub record ExactLog (g : Given) (e : Ended) (logs : List ℕ) (j : ℕ) : Type 0 where
  pub log : terms (state_of e.running.shared.states j).log ≡ tabulate g.proposals (λ (t : ℕ). t)
  pub count : get_or logs (log_counts + j) 0 ≡ g.proposals
  pub term_at : (t : ℕ) → t < g.proposals → get_or logs (max_terms * j + t) 0 ≡ t

-- ---- the run

-- The run e of g, its summary s, and the final log and record buffers.
pub record ExactRounds (g : Given) (e : Ended) (s : Summary) (logs records : List ℕ) : Type 0 where
  -- it stops by itself after exactly P + floor(n/2) rounds
  pub ended : s.ended ≡ 1
  pub rounds : s.rounds ≡ rounds_of g
  -- these are its rounds
  pub played : length e.running.rounds ≡ rounds_of g
  pub each : (k : ℕ) (p : Past) → get_elem? e.running.rounds k ≡ some p → ExactRound g k p
  -- its slots are the sum over its rounds; listen, flood and sleep are the sums over its rounds and nodes
  pub slots : s.slots ≡ sum (rounds_of g) (slots_in g)
  pub listen : s.listen ≡ sum (rounds_of g) (λ (k : ℕ). sum g.nodes (λ (j : ℕ). distance_in g k j))
  pub flood : s.flood ≡ sum (rounds_of g) (λ (k : ℕ). sum g.nodes (λ (j : ℕ). g.repeats))
  pub sleep : s.sleep ≡ sum (rounds_of g) (λ (k : ℕ). sum g.nodes (λ (j : ℕ). farthest g k - distance_in g k j))
  -- every node takes part in each round and is covered by it
  pub reached : (s.covered ≡ g.nodes * rounds_of g) × (s.took_part ≡ g.nodes * rounds_of g)
  -- exactly P records, in order of id
  pub proposals : s.records ≡ g.proposals
  pub recorded :
      e.running.shared.records
      ≡ tabulate g.proposals (λ (t : ℕ). record { id = t; start = first_slot g t; end = first_slot g (t + g.nodes / 2) })
  pub record_at : (t : ℕ) → t < g.proposals → ExactRecord g records t
  -- every log
  pub log_of : (j : ℕ) → j < g.nodes → ExactLog g e logs j

-- ---- the premises

-- `round_slots` is absent or at least m
abbrev pub AbsentOrAtLeast : ℕ → Option ℕ → Type 0
AbsentOrAtLeast m None = Unit {0}
AbsentOrAtLeast m (Some slots) = m ≤ slots

-- What holds of the configuration: paths of links join all nodes, P is at least 1, `round_slots` is absent or at least d + r, and the slot
-- limit is at least (P + floor(n/2)) * (d + r).
pub record Suited (g : Given) : Type 0 where
  pub joined : Joined g.rows g.nodes
  pub proposes : 1 ≤ g.proposals
  pub room : AbsentOrAtLeast (g.diameter + g.repeats) g.round_slots
  pub limit : rounds_of g * (g.diameter + g.repeats) ≤ g.limit

-- The run is accepted with the summary s, each of its attempts succeeds, and its configuration is suited.
pub record NoneLost (q : RowsOrTopology) (c : Config) (logs records snapshots : List ℕ) (s : Summary) : Type 0 where
  pub accepted : (outcome_for q c logs records snapshots).answer ≡ Ok s
  pub equal : s.attempts ≡ s.successes
  pub suited : Suited (given_for q c)

-- Demand 3, for a run of rows and of a topology, whatever the seed and the loss rate.
abbrev pub Demand3 : Type 0
Demand3 =
    (q : RowsOrTopology) (c : Config) (logs records snapshots : List ℕ) (s : Summary) →
    NoneLost q c logs records snapshots s →
    ExactRounds (given_for q c) (run (given_for q c)) s
    (outcome_for q c logs records snapshots).logs (outcome_for q c logs records snapshots).records
