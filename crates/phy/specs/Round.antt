-- One round of a flood (rules 4.2 to 4.4 and 4.9 to 4.12).
use Rattle.std.specs.Prelude.{ℕ, zero, suc, ◌+◌, ◌*◌, max, true, false, ◌||◌, List, eqb, ltb}
use Rattle.random.specs.Table.{tabulate}
use Rattle.network.specs.Graph.{has, set_of, count}
use Rattle.phy.specs.declared.node.Node.{Node}
use Rattle.phy.specs.declared.packet.Packet.{Packet}
use Rattle.std.specs.Prelude.{Option, Some, None}
use Rattle.config.specs.Limits.{least_length}
use Rattle.phy.specs.Packets.{payload_is}
use Rattle.phy.specs.Node.{begun_by, delivered_to, is_flooding, is_sleeping}
use Rattle.phy.specs.Slot.{Setup, Standing, at, how_many, slot_step}

-- the length limit: `round_slots`, else max(3, (d + 2) times repeats)
abbrev pub length_limit : Option ℕ → ℕ → ℕ → ℕ
length_limit (Some slots) d repeats = slots
length_limit None d repeats = max least_length ((d + 2) * repeats)

-- All nodes listen, the initiator floods with its repeats and holds the packet.
unfoldable pub begun : ℕ → ℕ → ℕ → Packet → List Node → List Node
begun n repeats initiator packet nodes = tabulate n (λ (j : ℕ). begun_by (eqb j initiator) packet repeats (at nodes j))

-- At most `left` slots; none follows one that leaves no node flooding.
unfoldable pub slots : Setup → ℕ → Standing → Standing
slots g zero s = s
slots g (suc left) s =
    let s₁ : Standing = slot_step g s in
    elim (ltb 0 (how_many is_flooding s₁.nodes g.nodes)) [ true ↦ slots g left s₁ | false ↦ s₁ ]

-- Sleeping nodes get the packet.
unfoldable pub delivered : ℕ → Packet → List Node → List Node
delivered n packet nodes = tabulate n (λ (j : ℕ). delivered_to packet (at nodes j))

-- the nodes that took part: the initiator and the sleepers
unfoldable pub participants : ℕ → ℕ → List Node → ℕ
participants n initiator nodes = set_of n (λ (j : ℕ). eqb j initiator || is_sleeping (at nodes j))

-- the covered nodes: those whose held packet equals this round's, also one kept from an earlier round
unfoldable pub coverage : ℕ → Packet → List Node → ℕ
coverage n packet nodes = how_many (λ (v : Node). payload_is packet v.payload) nodes n

-- where the run stands after the round, who took part, and how many nodes are covered
pub record Flooded : Type 0 where
  pub after : Standing
  pub part : ℕ
  pub covered : ℕ

-- how many of n nodes took part: the size of that set
abbrev pub took_part_of : ℕ → Flooded → ℕ
took_part_of n r = count n (has r.part)

-- the same place in the run, with other node records
abbrev pub with_nodes : List Node → Standing → Standing
with_nodes nodes s = record { nodes = nodes; attempts = s.attempts; successes = s.successes; slot = s.slot; shots = s.shots }

-- One round: begin, slots up to the length limit, end; who took part, and how many nodes are covered.
unfoldable pub round : Setup → ℕ → ℕ → Packet → Standing → Flooded
round g longest initiator packet s =
    let ended : Standing = slots g longest (with_nodes (begun g.nodes g.repeats initiator packet s.nodes) s) in
    let nodes : List Node = delivered g.nodes packet ended.nodes in
    record { after = with_nodes nodes ended; part = participants g.nodes initiator nodes; covered = coverage g.nodes packet nodes }
