-- Bounds on the counts of every accepted run (rule 12.5).
use Rattle.std.specs.Prelude.{ℕ, ◌+◌, ◌-◌, ◌*◌, ◌/◌, ◌≤◌, ◌<◌, List, ◌≡◌}
use Rattle.config.specs.Limits.{max_terms, max_round_slots, most_rounds, count_bound}
use Rattle.phy.specs.Round.{length_limit}
use Rattle.metrics.specs.declared.summary.Summary.{Summary}
use Rattle.config.specs.declared.Config.{Config}
use Rattle.std.specs.Prelude.{Ok}
use Rattle.rules.specs.Run.{Given}
use Rattle.rules.specs.Networks.{RowsOrTopology}
use Rattle.rules.specs.Entries.{given_for, outcome_for}

-- the most slots that a round may have
abbrev pub longest : Given → ℕ
longest g = length_limit g.round_slots g.diameter g.repeats

-- all counts of a summary together
abbrev pub together : Summary → ℕ
together s =
    s.nodes + s.rounds + s.slots
    + s.listen + s.flood + s.sleep
    + s.attempts + s.successes
    + s.flood_rounds + s.flood_nodes + s.covered + s.took_part
    + s.nacks + s.piggybacks + s.records + s.snapshots

-- The summary s of the run of g.
pub record Bounds (g : Given) (s : Summary) : Type 0 where
  pub nodes : s.nodes ≡ g.nodes
  -- at most P + 1,002 rounds; over all of them at least as many slots a round as there are repeats, and at most 4,096
  pub rounds : s.rounds ≤ most_rounds g.proposals
  pub slots_least : s.rounds * g.repeats ≤ s.slots
  pub slots : s.slots ≤ s.rounds * longest g
  pub round_slots : longest g ≤ max_round_slots
  pub slots_most : s.slots ≤ most_rounds max_terms * max_round_slots
  -- in every slot each node listens, floods or sleeps
  pub each_slot : s.listen + s.flood + s.sleep ≡ g.nodes * s.slots
  -- in every slot each node makes at most one attempt at each node
  pub successes : s.successes ≤ s.attempts
  pub attempts : s.attempts ≤ g.nodes * g.nodes * s.slots
  -- every round is a flood to all nodes; at most all take part, and as many are covered
  pub flood_rounds : s.flood_rounds ≡ s.rounds
  pub flood_nodes : s.flood_nodes ≡ g.nodes * s.rounds
  pub took_part : s.took_part ≤ g.nodes * s.rounds
  pub covered : s.covered ≡ s.took_part
  -- at most one NACK a round, and one piggyback a round and node
  pub nacks : s.nacks ≤ s.rounds
  pub piggybacks : s.piggybacks ≤ g.nodes * s.rounds
  pub records : s.records ≤ max_terms
  -- slots over interval, rounded up
  pub snapshots : s.snapshots ≡ (s.slots + g.interval - 1) / g.interval
  -- so all counts fit in 40 bits, even their sum
  pub small : together s < count_bound

-- the summary of every accepted run, of rows or of a topology, keeps the bounds
abbrev pub AllBounded : Type 0
AllBounded =
    (q : RowsOrTopology) (c : Config) (logs records snapshots : List ℕ) (s : Summary) →
    (outcome_for q c logs records snapshots).answer ≡ Ok s →
    Bounds (given_for q c) s
