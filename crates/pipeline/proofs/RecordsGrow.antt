-- Records that were made stay, in their order: a round only adds to them. Assumes nothing.
use Prim.Native.Nat.{ℕ, zero, suc}
use mathlib.Core.Bool.{Bool, true, false, cond}
use mathlib.Core.List.{List, [], ◌∷◌, ◌++◌}
use mathlib.Core.Path.{refl}
use lib.ListN.{get_or}
use Rattle.network.specs.Graph.{has}
use Rattle.phy.specs.declared.packet.Packet.{Packet}
use Rattle.protocol.specs.Growth.{Continues}
use Rattle.protocol.specs.Turns.{participant_turn}
use Rattle.protocol.proofs.Growing.{continues_refl, continues_trans}
use Rattle.pipeline.specs.Round.{Record, Shared, state_of, recorded, record_all, prepare_round, take_turn, turns, cleared, process_round}

all_grow : (starts : List ℕ) (end : ℕ) (ts : List ℕ) (rs : List Record) → Continues rs (record_all starts end ts rs)
unfolding record_all
all_grow starts end [] rs = continues_refl rs
all_grow starts end (t ∷ ts) rs = go (recorded t rs) (all_grow starts end ts)
  where
    new : List Record
    new = record { id = t; start = get_or starts t 0; end = end } ∷ []

    go : (b : Bool) → ((l : List Record) → Continues l (record_all starts end ts l)) → Continues rs (record_all starts end ts (cond b rs (rs ++ new)))
    go true later = later rs
    go false later = continues_trans rs (rs ++ new) (record_all starts end ts (rs ++ new)) (new, refl) (later (rs ++ new))

pub prepared_grow : (n proposals i slot : ℕ) (s : Shared) → Continues s.records (prepare_round n proposals i slot s).shared.records
unfolding prepare_round
prepared_grow n proposals i slot s = all_grow _ slot _ s.records

turn_grow : (packet : Packet) (slot j : ℕ) (s : Shared) → Continues s.records (take_turn packet slot j s).records
unfolding take_turn
turn_grow packet slot j s = all_grow s.starts slot (participant_turn j packet (state_of s.states j)).newly s.records

turns_grow : (packet : Packet) (slot part m : ℕ) (s : Shared) → Continues s.records (turns packet slot part m s).records
unfolding turns
turns_grow packet slot part zero s = continues_refl s.records
turns_grow packet slot part (suc m) s = go (has part m) (turns_grow packet slot part m s)
  where
    before : Shared
    before = turns packet slot part m s

    Grown : Shared → Type 0
    Grown x = Continues s.records x.records

    go : (b : Bool) → Grown before → Grown (elim b [ true ↦ take_turn packet slot m before | false ↦ before ])
    go true w = continues_trans s.records before.records (take_turn packet slot m before).records w (turn_grow packet slot m before)
    go false w = w

pub processed_grow : (n : ℕ) (packet : Packet) (slot part : ℕ) (s : Shared) → Continues s.records (process_round n packet slot part s).records
unfolding process_round
processed_grow n packet slot part s = turns_grow packet slot part n (cleared s)
