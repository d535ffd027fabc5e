-- The terms of a packet, and the test whether two packets are equal: all their fields are (rule 5.3).
use Rattle.std.specs.Prelude.{ℕ, Bool, true, false, ◌&&◌, eqb, Option, Some, None}
use Rattle.network.specs.declared.units.Term.{Term}
use Rattle.phy.specs.declared.packet.Piggyback.{Piggyback}
use Rattle.phy.specs.declared.packet.Packet.{Packet}

-- ---- the terms that a packet may have

abbrev pub term_in : Option Term → Option ℕ
term_in None = None
term_in (Some t) = Some t.0

abbrev pub piggyback_term : Option Piggyback → Option ℕ
piggyback_term None = None
piggyback_term (Some again) = Some again.term.0

-- the data of a piggyback; none has no data
abbrev pub piggyback_data : Option Piggyback → Option Term
piggyback_data None = None
piggyback_data (Some again) = again.«data»

-- both none, or both the same term
abbrev pub same_term : Option ℕ → Option ℕ → Bool
same_term None None = true
same_term None (Some u) = false
same_term (Some t) None = false
same_term (Some t) (Some u) = eqb t u

-- ---- whole packets

unfoldable pub same_packet : Packet → Packet → Bool
same_packet p q =
    ((eqb p.current_term.0 q.current_term.0 && eqb p.flags_bitmap q.flags_bitmap)
    && (eqb p.sender.0 q.sender.0 && same_term (term_in p.nack_term) (term_in q.nack_term)))
    && ((same_term (term_in p.last_accepted_term) (term_in q.last_accepted_term) && same_term (term_in p.proposal_data) (term_in q.proposal_data))
    && (same_term (piggyback_term p.piggyback) (piggyback_term q.piggyback) && same_term (term_in (piggyback_data p.piggyback)) (term_in (piggyback_data q.piggyback))))

-- the payload is this packet
abbrev pub payload_is : Packet → Option Packet → Bool
payload_is p None = false
payload_is p (Some q) = same_packet p q
