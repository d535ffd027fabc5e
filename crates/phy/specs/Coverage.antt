-- The two counts of a round beside each other (rules 4.11, 4.12 and 12.5): how many nodes took part, and how many are covered.
use Rattle.std.specs.Prelude.{ℕ, ◌≤◌, ◌≡◌, true, [], ◌∷◌}
use Rattle.phy.specs.declared.packet.Packet.{Packet}
use Rattle.phy.specs.Node.{new, holding, is_sleeping}
use Rattle.phy.specs.Slot.{Setup, Standing, at}
use Rattle.phy.specs.Round.{Flooded, took_part_of, round}

-- no more of n nodes took part in a round than are covered
abbrev pub AtMostCovered : ℕ → Flooded → Type 0
AtMostCovered n r = took_part_of n r ≤ r.covered

-- It is so in every round: on any graph, from wherever it begins, whatever is lost.
abbrev pub TookPartCovered : Type 0
TookPartCovered =
    (g : Setup) (longest initiator : ℕ) (packet : Packet) (s : Standing) →
    AtMostCovered g.nodes (round g longest initiator packet s)

-- so in a round whose initiator reaches sleep
abbrev pub AsleepTookPartCovered : Type 0
AsleepTookPartCovered =
    (g : Setup) (longest initiator : ℕ) (packet : Packet) (s : Standing) →
    is_sleeping (at (round g longest initiator packet s).after.nodes initiator) ≡ true →
    AtMostCovered g.nodes (round g longest initiator packet s)

-- ---- a round by itself in which they differ

-- two nodes without a link
abbrev pub apart : Setup
apart = record { rows = 0 ∷ 0 ∷ []; nodes = 2; repeats = 1; interval = 1; progress = 0; heard = λ _. true }

-- both hold this packet
abbrev pub both_holding : Packet → Standing
both_holding packet =
    record { nodes = holding packet new ∷ holding packet new ∷ []; attempts = 0; successes = 0; slot = 0; shots = record { next = 0; taken = [] } }

-- node 0 floods it once more
abbrev pub flooded_again : Packet → Flooded
flooded_again packet = round apart 3 0 packet (both_holding packet)

-- node 1 hears nothing and took no part, and is covered by what it held
abbrev pub CountsDiffer : Type 0
CountsDiffer = (packet : Packet) → (took_part_of 2 (flooded_again packet) ≡ 1) × ((flooded_again packet).covered ≡ 2)
