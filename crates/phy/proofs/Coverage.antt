-- The two counts of a round beside each other: who took part is covered, and where they are equal and where not. Assumes nothing.
use Rattle.std.specs.Prelude.{Option, Some}
use Prim.Native.Nat.{ℕ, ◌<◌}
use mathlib.Core.Path.{◌≡◌, refl, ap, ◌∙◌}
use mathlib.Core.Bool.{Bool, true, false, cond}
use Rattle.network.specs.Graph.{has, set_of, any, count, linked}
use Rattle.network.proofs.Sets.{count_mono}
use Rattle.random.specs.Table.{tabulate}
use Rattle.phy.specs.declared.packet.Packet.{Packet}
use Rattle.phy.specs.Packets.{payload_is}
use Rattle.phy.specs.Node.{tick, transition}
use Rattle.phy.specs.Slot.{Setup, Standing, at, among, receivers, insert, attempt, attempt_all, take_one, take_while, ticked, snapshot, tries_in, moved, slot_step}
use Rattle.phy.specs.Round.{Flooded, took_part_of, begun, slots, delivered, participants, coverage, round}
use Rattle.phy.specs.Coverage.{TookPartCovered, AsleepTookPartCovered, CountsDiffer}
use Rattle.phy.proofs.Nodes.{count_cong}
use Rattle.phy.proofs.Packets.{same_packet_itself}
use Rattle.phy.proofs.Payloads.{part_others, payload_round}

-- a round by itself
pub counts_differ : CountsDiffer
unfolding has set_of any count linked tabulate tick transition among receivers insert attempt attempt_all take_one take_while ticked snapshot tries_in moved slot_step
    begun slots delivered participants coverage round
counts_differ packet = (refl, rw (same_packet_itself packet))

-- ---- every round
module _ (g : Setup) (longest initiator : ℕ) (packet : Packet) (s : Standing) where
  abbrev played : Flooded
  played = round g longest initiator packet s

  -- who took part is covered
  part_covered : (j : ℕ) → j < g.nodes → has played.part j ≡ true → payload_is packet (at played.after.nodes j).payload ≡ true
  part_covered j h took =
      ap (payload_is packet) (payload_round g longest initiator packet s j h ∙ ap (λ (b : Bool). cond b (Some packet) (at s.nodes j).payload) took)
      ∙ same_packet_itself packet

  -- where no other node than the initiator held the round's packet before it
  module _ (others : (j : ℕ) → j < g.nodes → (j ≡ initiator → ⊥) → payload_is packet (at s.nodes j).payload ≡ false) where
    -- the covered nodes are those that took part
    pub covered_are : (j : ℕ) → j < g.nodes → payload_is packet (at played.after.nodes j).payload ≡ has played.part j
    covered_are j h =
        ap (payload_is packet) (payload_round g longest initiator packet s j h)
        ∙ go (has played.part j) (at s.nodes j).payload (λ out. others j h (part_others g longest initiator packet s j h out))
      where
        go : (b : Bool) (old : Option Packet) → (b ≡ false → payload_is packet old ≡ false) → payload_is packet (cond b (Some packet) old) ≡ b
        go true old e = same_packet_itself packet
        go false old e = e refl

    pub covered_round : played.covered ≡ took_part_of g.nodes played
    unfolding round coverage
    covered_round = count_cong g.nodes _ (has played.part) covered_are

pub took_part_covered : TookPartCovered
unfolding round coverage
took_part_covered g longest initiator packet s = count_mono g.nodes _ _ (part_covered g longest initiator packet s)

pub asleep_took_part_covered : AsleepTookPartCovered
asleep_took_part_covered g longest initiator packet s asleep = took_part_covered g longest initiator packet s
