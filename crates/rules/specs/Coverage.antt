-- In every round of a run the covered nodes are those that took part (rules 4.12 and 12.5). Covered is a node whose held packet equals the
-- round's, also one kept from an earlier round; but a packet names its sender, and between two rounds of one sender every other node starts
-- a round and holds its own packet from then on.
use Rattle.std.specs.Prelude.{ℕ, ◌<◌, ◌≡◌}
use Rattle.std.proofs.Math.Option.{some}
use Rattle.std.proofs.Math.ListN.{get_elem?}
use Rattle.network.specs.Graph.{has}
use Rattle.phy.specs.Packets.{payload_is}
use Rattle.phy.specs.Slot.{at}
use Rattle.phy.specs.Round.{took_part_of}
use Rattle.rules.specs.Run.{Given, Past, run_for, run}

-- The covered nodes of a round of n nodes are those that took part, and as many.
pub record SameNodes (n : ℕ) (p : Past) : Type 0 where
  pub nodes : (j : ℕ) → j < n → payload_is p.packet (at p.flooded.after.nodes j).payload ≡ has p.flooded.part j
  pub number : p.flooded.covered ≡ took_part_of n p.flooded

-- it is so in every round of every run, whatever its receptions
abbrev pub CoveredTookPart : Type 0
CoveredTookPart = (g : Given) (k : ℕ) (p : Past) → get_elem? (run g).running.rounds k ≡ some p → SameNodes g.nodes p

-- so both counts are equal after all rounds of every run, however many it is allowed
abbrev pub SameCounts : Type 0
SameCounts = (g : Given) (most : ℕ) → (run_for g most).running.covered ≡ (run_for g most).running.took_part
