-- One node's record in a round (rules 4.1, 4.3, 4.5, 4.8 and 4.10).
use Rattle.std.specs.Prelude.{ℕ, ◌+◌, ◌-◌, Bool, true, false, cond, eqb, Some, None}
use Rattle.phy.specs.declared.node.NodeState.{NodeState}
use Rattle.phy.specs.declared.node.NodeState.TheVariants.{Listen, Flood, Sleep}
use Rattle.phy.specs.declared.node.Node.{Node}
use Rattle.phy.specs.declared.packet.Packet.{Packet}

-- a node before its first round
abbrev pub new : Node
new = record { state = Listen; flood_remaining = 0; payload = None; slots_listen = 0; slots_flood = 0; slots_sleep = 0 }

-- the node with another state and other repeats left
abbrev pub in_state : NodeState → ℕ → Node → Node
in_state state left v =
    record {
      state = state;
      flood_remaining = left;
      payload = v.payload;
      slots_listen = v.slots_listen;
      slots_flood = v.slots_flood;
      slots_sleep = v.slots_sleep;
    }

-- `reset_round`: the node listens
abbrev pub reset_round : Node → Node
reset_round v = in_state Listen 0 v

-- `tick`: the node counts its state
abbrev pub tick_in : NodeState → Node → Node
tick_in Listen v = record { state = v.state; flood_remaining = v.flood_remaining; payload = v.payload; slots_listen = v.slots_listen + 1; slots_flood = v.slots_flood; slots_sleep = v.slots_sleep }
tick_in Flood v = record { state = v.state; flood_remaining = v.flood_remaining; payload = v.payload; slots_listen = v.slots_listen; slots_flood = v.slots_flood + 1; slots_sleep = v.slots_sleep }
tick_in Sleep v = record { state = v.state; flood_remaining = v.flood_remaining; payload = v.payload; slots_listen = v.slots_listen; slots_flood = v.slots_flood; slots_sleep = v.slots_sleep + 1 }

unfoldable pub tick : Node → Node
tick v = tick_in v.state v

-- flooders lose one repeat and sleep at 0, listeners that heard flood with full repeats
abbrev pub transition_in : NodeState → ℕ → Bool → Node → Node
transition_in Flood repeats heard v = in_state (cond (eqb (v.flood_remaining - 1) 0) Sleep Flood) (v.flood_remaining - 1) v
transition_in Listen repeats heard v = cond heard (in_state Flood repeats v) v
transition_in Sleep repeats heard v = v

unfoldable pub transition : ℕ → Bool → Node → Node
transition repeats heard v = transition_in v.state repeats heard v

-- the node with this packet
abbrev pub holding : Packet → Node → Node
holding p v =
    record {
      state = v.state;
      flood_remaining = v.flood_remaining;
      payload = Some p;
      slots_listen = v.slots_listen;
      slots_flood = v.slots_flood;
      slots_sleep = v.slots_sleep;
    }

-- the slots that a node has counted in all
abbrev pub total : Node → ℕ
total v = v.slots_listen + v.slots_flood + v.slots_sleep

abbrev pub listens : NodeState → Bool
listens Listen = true
listens Flood = false
listens Sleep = false

abbrev pub floods : NodeState → Bool
floods Listen = false
floods Flood = true
floods Sleep = false

abbrev pub sleeps : NodeState → Bool
sleeps Listen = false
sleeps Flood = false
sleeps Sleep = true

abbrev pub is_listening : Node → Bool
is_listening v = listens v.state

abbrev pub is_flooding : Node → Bool
is_flooding v = floods v.state

abbrev pub is_sleeping : Node → Bool
is_sleeping v = sleeps v.state

-- as a round begins: the initiator floods with its repeats and holds the packet, every other node listens
abbrev pub begun_by : Bool → Packet → ℕ → Node → Node
begun_by first packet repeats v = cond first (holding packet (in_state Flood repeats v)) (reset_round v)

-- sleeping nodes get the packet
abbrev pub delivered_to : Packet → Node → Node
delivered_to packet v = cond (is_sleeping v) (holding packet v) v
