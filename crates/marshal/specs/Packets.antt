-- A packet as numbers, and numbers as a packet (rules 7.7 and 15.8).
use Rattle.std.specs.Prelude.{ℕ, List, [], ◌∷◌, ◌++◌, Bool, cond, ◌&&◌, ◌||◌, leb, eqb, get_or, Option, Some, None}
use Rattle.network.specs.declared.units.Term.{Term}
use Rattle.phy.specs.declared.packet.Piggyback.{Piggyback}
use Rattle.phy.specs.declared.packet.Packet.{Packet}
use Rattle.phy.specs.Packets.{term_in, piggyback_term, piggyback_data}

-- the packet's places
abbrev pub packet_size : ℕ
packet_size = 13

-- a term that may be missing, as two numbers: 1 and the term, or 0 and 0
abbrev pub term_numbers : Option ℕ → List ℕ
term_numbers None = 0 ∷ 0 ∷ []
term_numbers (Some t) = 1 ∷ t ∷ []

-- A packet's numbers: sender, current term, flags; then NACK, last accepted, proposal data, piggyback and piggyback data, a term each.
abbrev pub packet_numbers : Packet → List ℕ
packet_numbers p =
    p.sender.0
    ∷ p.current_term.0
    ∷ p.flags_bitmap
    ∷ term_numbers (term_in p.nack_term)
    ++ term_numbers (term_in p.last_accepted_term)
    ++ term_numbers (term_in p.proposal_data)
    ++ term_numbers (piggyback_term p.piggyback)
    ++ term_numbers (term_in (piggyback_data p.piggyback))

-- ---- the other way round

-- two numbers are a term that may be missing: 1 and the term, or 0 and 0
unfoldable pub formed_term : ℕ → ℕ → Bool
formed_term given term = leb given 1 && (leb 1 given || eqb term 0)

-- Thirteen numbers are those of a packet: each term is given or missing, and where there is no piggyback it has no data.
unfoldable pub formed : List ℕ → Bool
formed l =
    formed_term (get_or l 3 0) (get_or l 4 0) && formed_term (get_or l 5 0) (get_or l 6 0) && formed_term (get_or l 7 0) (get_or l 8 0)
    && formed_term (get_or l 9 0) (get_or l 10 0) && formed_term (get_or l 11 0) (get_or l 12 0) && leb (get_or l 11 0) (get_or l 9 0)

-- the term, and the piggyback with its data, where it is given
abbrev pub term_from : ℕ → ℕ → Option Term
term_from given t = cond (eqb given 0) None (Some (record { 0 = t }))

abbrev pub piggyback_from : ℕ → ℕ → Option Term → Option Piggyback
piggyback_from given t d = cond (eqb given 0) None (Some (record { term = record { 0 = t }; «data» = d }))

-- the packet that a slice's first places hold
abbrev pub packet_at : List ℕ → Packet
packet_at l =
    record {
      current_term = record { 0 = get_or l 1 0 };
      last_accepted_term = term_from (get_or l 5 0) (get_or l 6 0);
      flags_bitmap = get_or l 2 0;
      nack_term = term_from (get_or l 3 0) (get_or l 4 0);
      sender = record { 0 = get_or l 0 0 };
      proposal_data = term_from (get_or l 7 0) (get_or l 8 0);
      piggyback = piggyback_from (get_or l 9 0) (get_or l 10 0) (term_from (get_or l 11 0) (get_or l 12 0));
    }
