-- A run with a larger slot limit goes on where the one with the smaller limit stopped (rule 12.11).
use Rattle.std.specs.Prelude.{ℕ, ◌≤◌}
use Rattle.config.specs.declared.Config.{Config}
use Rattle.protocol.specs.Growth.{Continues}
use Rattle.rules.specs.Networks.{RowsOrTopology}
use Rattle.rules.specs.Run.{Given, Running, run}
use Rattle.rules.specs.Entries.{given_for}

-- all else equal, with another slot limit
abbrev pub limited_given : ℕ → Given → Given
limited_given limit g =
    record {
      rows = g.rows;
      nodes = g.nodes;
      diameter = g.diameter;
      repeats = g.repeats;
      round_slots = g.round_slots;
      proposals = g.proposals;
      interval = g.interval;
      limit = limit;
      heard = g.heard;
    }

-- the rounds of the second run are those of the first and then perhaps more; its records likewise
pub record GoesOn (r later : Running) : Type 0 where
  pub rounds : Continues r.rounds later.rounds
  pub records : Continues r.shared.records later.shared.records

abbrev pub LargerLimit : Type 0
LargerLimit = (g : Given) (limit : ℕ) → g.limit ≤ limit → GoesOn (run g).running (run (limited_given limit g)).running

-- so for rows and for a topology, of two configurations that differ in the slot limit alone
abbrev pub limited_config : ℕ → Config → Config
limited_config limit c =
    record {
      flood_repeats = c.flood_repeats;
      round_slots = c.round_slots;
      loss_rate = c.loss_rate;
      seed = c.seed;
      num_proposals = c.num_proposals;
      snapshot_interval = c.snapshot_interval;
      max_slots = limit;
    }

abbrev pub LargerLimitFor : Type 0
LargerLimitFor =
    (q : RowsOrTopology) (c : Config) (limit : ℕ) → c.max_slots ≤ limit → GoesOn (run (given_for q c)).running (run (given_for q (limited_config limit c))).running
