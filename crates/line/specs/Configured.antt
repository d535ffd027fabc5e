-- The configuration that a line asks for (rules 1.4, 1.5 and 10.4).
use Rattle.std.specs.Float.Ieee.{of_bits}
use Rattle.std.specs.Float.{binary64}
use Rattle.config.specs.declared.Config.{Config}
use Rattle.line.specs.declared.read.Line.{Line}

-- the loss rate is the f64 with the line's bits
abbrev pub config_of : Line → Config
config_of l =
    record {
      flood_repeats = l.repeats;
      round_slots = l.round_slots;
      loss_rate = of_bits binary64 l.loss;
      seed = l.seed;
      num_proposals = l.proposals;
      snapshot_interval = l.interval;
      max_slots = l.limit;
    }
