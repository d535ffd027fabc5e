-- Limits of rule 1.6 and layouts of the lent buffers (rules 7.1 to 7.3) that several crates go by, each by its name.
use Rattle.std.specs.Prelude.{ℕ, ◌+◌, ◌*◌, ◌^◌}

-- how many bits a set has: how many nodes or terms it can tell apart
abbrev pub set_bits : ℕ
set_bits = 64

-- the least and the most nodes of a graph
abbrev pub min_nodes : ℕ
min_nodes = 2

abbrev pub max_nodes : ℕ
max_nodes = 32

-- the most terms: proposals, logged terms of a node, and records
abbrev pub max_terms : ℕ
max_terms = 64

abbrev pub max_repeats : ℕ
max_repeats = 64

abbrev pub max_round_slots : ℕ
max_round_slots = 4096

-- the most children of a node of a tree
abbrev pub max_branching : ℕ
max_branching = 32

-- the least length limit of a flood whose round slots are absent
abbrev pub least_length : ℕ
least_length = 3

-- end 2: the round's index is above P + 5d
abbrev pub rounds_per_link : ℕ
rounds_per_link = 5

-- end 3: the round's index is above P + 1,000
abbrev pub extra_rounds : ℕ
extra_rounds = 1000

-- Rounds of a run of P proposals: end 3 comes after index P + 1,001 at the latest.
abbrev pub enough_rounds : ℕ
enough_rounds = extra_rounds + 2

abbrev pub most_rounds : ℕ → ℕ
most_rounds proposals = proposals + enough_rounds

-- every count of a run is below this, and so is their sum
abbrev pub count_bound : ℕ
count_bound = 2 ^ 40

-- a record: id, start, end
abbrev pub record_size : ℕ
record_size = 3

abbrev pub records_size : ℕ
records_size = record_size * max_terms

-- a snapshot: slot, progress, listening, flooding, sleeping
abbrev pub snapshot_size : ℕ
snapshot_size = 5

-- the log buffer: terms of node i from byte 64i, its count at 2,048 + i
abbrev pub log_counts : ℕ
log_counts = max_terms * max_nodes

abbrev pub log_size : ℕ
log_size = log_counts + max_nodes

-- the most snapshots that the program lists
abbrev pub max_listed : ℕ
max_listed = 1000

abbrev pub listed_size : ℕ
listed_size = snapshot_size * max_listed
