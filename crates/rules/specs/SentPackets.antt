-- What holds of every packet of an accepted run (rule 12.7): it is of the run's nodes and of terms below 64, and its data is that of its terms.
use Rattle.std.specs.Prelude.{ℕ, ◌^◌, ◌<◌, ◌≡◌, Option, Some, None}
use Rattle.std.proofs.Math.Option.{some}
use Rattle.std.proofs.Math.ListN.{get_elem?}
use Rattle.config.specs.Limits.{max_terms}
use Rattle.network.specs.declared.units.Term.{Term}
use Rattle.phy.specs.declared.packet.Packet.{Packet}
use Rattle.protocol.specs.Growth.{OwnPacket}
use Rattle.protocol.specs.View.{last_below, back_below}
use Rattle.rules.specs.Accepted.{Accepted}
use Rattle.rules.specs.Run.{Given, Past, run}

-- a NACK is none, or a term above 0 and below the bound
abbrev pub nack_below : ℕ → Option Term → Type 0
nack_below bound None = Unit {0}
nack_below bound (Some t) = (0 < t.0) × (t.0 < bound)

-- A packet that a run of n nodes may send.
pub record SentPacket (n : ℕ) (p : Packet) : Type 0 where
  -- the sender is a node, and a flag is a node's
  pub sender : p.sender.0 < n
  pub flags : p.flags_bitmap < 2 ^ n
  -- every term is below 64
  pub current : p.current_term.0 < max_terms
  pub last : last_below max_terms p.last_accepted_term
  pub nack : nack_below max_terms p.nack_term
  pub back : back_below max_terms p.piggyback
  -- proposal data is empty or that of the current term, and a piggyback's data that of its own
  pub own : OwnPacket p

-- every packet of every accepted run, whatever its receptions
abbrev pub AllSent : Type 0
AllSent = (g : Given) → Accepted g → (k : ℕ) (p : Past) → get_elem? (run g).running.rounds k ≡ some p → SentPacket g.nodes p.packet
