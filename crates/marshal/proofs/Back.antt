-- What is written can be read again. Assumes nothing.
use Prim.Native.Nat.{ℕ}
use mathlib.Core.Path.{◌≡◌, refl, ap, ◌∙◌}
use mathlib.Core.Bool.{true, ◌&&◌}
use mathlib.Core.List.{List, [], ◌∷◌, ◌++◌}
use Rattle.std.specs.Prelude.{Option, None, Some}
use native.Mathlib.Omega.{arith}
use lib.Dec.{leb}
use lib.ListN.{length, length-append}
use Rattle.metrics.specs.declared.summary.Summary.{Summary}
use Rattle.phy.specs.Packets.{term_in, piggyback_term, piggyback_data}
use Rattle.network.specs.declared.units.Term.{Term}
use Rattle.phy.specs.declared.packet.Piggyback.{Piggyback}
use Rattle.phy.specs.declared.packet.Packet.{Packet}
use Rattle.marshal.specs.Convert.{summary_numbers, summary_at}
use Rattle.marshal.specs.Packets.{packet_size, term_numbers, packet_numbers, formed_term, formed, term_from, piggyback_from, packet_at}

-- a summary is read as it was written, whatever follows it
pub summary_back : (s : Summary) (l : List ℕ) → summary_at (summary_numbers s ++ l) ≡ s
summary_back s l = refl

-- ---- a packet

-- the two numbers of a term that may be missing
abbrev given : Option ℕ → ℕ
given None = 0
given (Some t) = 1

abbrev term : Option ℕ → ℕ
term None = 0
term (Some t) = t

two_numbers : (o : Option ℕ) → term_numbers o ≡ given o ∷ term o ∷ []
two_numbers None = refl
two_numbers (Some t) = refl

-- a packet's thirteen numbers, one by one, and what follows them
abbrev numbers : Packet → List ℕ → List ℕ
numbers p l =
    let n = term_in p.nack_term in
    let a = term_in p.last_accepted_term in
    let d = term_in p.proposal_data in
    let b = piggyback_term p.piggyback in
    let e = term_in (piggyback_data p.piggyback) in
    p.sender.0 ∷ p.current_term.0 ∷ p.flags_bitmap
    ∷ given n ∷ term n ∷ given a ∷ term a ∷ given d ∷ term d ∷ given b ∷ term b ∷ given e ∷ term e ∷ l

one_by_one : (p : Packet) (l : List ℕ) → packet_numbers p ++ l ≡ numbers p l
one_by_one p l =
    λ i.
    p.sender.0 ∷ p.current_term.0 ∷ p.flags_bitmap
    ∷ two_numbers (term_in p.nack_term) i ++ two_numbers (term_in p.last_accepted_term) i ++ two_numbers (term_in p.proposal_data) i
    ++ two_numbers (piggyback_term p.piggyback) i ++ two_numbers (term_in (piggyback_data p.piggyback)) i ++ l

-- so they are thirteen
pub packet_length : (p : Packet) → length (packet_numbers p) ≡ packet_size
packet_length p = omega (arith, ap length (one_by_one p []), length-append (packet_numbers p) [])

term_formed : (o : Option ℕ) → formed_term (given o) (term o) ≡ true
unfolding formed_term
term_formed None = refl
term_formed (Some t) = refl

-- a piggyback that is not there has no data
data_behind : (b : Option Piggyback) → leb (given (term_in (piggyback_data b))) (given (piggyback_term b)) ≡ true
data_behind None = refl
data_behind (Some again) = case again.«data»
  where
    case : (d : Option Term) → leb (given (term_in d)) 1 ≡ true
    case None = refl
    case (Some t) = refl

term_back : (o : Option Term) → term_from (given (term_in o)) (term (term_in o)) ≡ o
term_back None = refl
term_back (Some t) = refl

piggyback_back : (b : Option Piggyback) (d : Option Term) → d ≡ piggyback_data b → piggyback_from (given (piggyback_term b)) (term (piggyback_term b)) d ≡ b
piggyback_back None d e = refl
piggyback_back (Some again) d e = ap (λ (x : Option Term). Some (record { term = again.term; «data» = x })) e

-- a packet's numbers are those of a packet, and it is read as it was written, whatever follows it
pub packet_formed : (p : Packet) (l : List ℕ) → formed (packet_numbers p ++ l) ≡ true
unfolding formed
packet_formed p l =
    ap formed (one_by_one p l)
    ∙ (λ i.
    term_formed (term_in p.nack_term) i && term_formed (term_in p.last_accepted_term) i && term_formed (term_in p.proposal_data) i
    && term_formed (piggyback_term p.piggyback) i && term_formed (term_in (piggyback_data p.piggyback)) i && data_behind p.piggyback i)

pub packet_back : (p : Packet) (l : List ℕ) → packet_at (packet_numbers p ++ l) ≡ p
packet_back p l =
    ap packet_at (one_by_one p l)
    ∙ (λ i.
    record {
      current_term = p.current_term;
      last_accepted_term = term_back p.last_accepted_term i;
      flags_bitmap = p.flags_bitmap;
      nack_term = term_back p.nack_term i;
      sender = p.sender;
      proposal_data = term_back p.proposal_data i;
      piggyback = piggyback_back p.piggyback _ (term_back (piggyback_data p.piggyback)) i;
    })
