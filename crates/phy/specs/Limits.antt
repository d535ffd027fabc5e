-- The size of the queue that is lent to a flood, and a bound on the attempts of a slot.
use Rattle.std.specs.Prelude.{ℕ, ◌*◌}
use Rattle.config.specs.Limits.{set_bits, max_nodes, max_repeats}

-- the queue of the flooding nodes: a place for each repeat
abbrev pub queue_size : ℕ
queue_size = max_repeats

-- A slot has no more attempts: each node tries no more nodes than a set has bits.
abbrev pub slot_attempts : ℕ
slot_attempts = set_bits * max_nodes
