-- What a packet that has a text fits, as facts. Assumes nothing.
use Prim.Native.Nat.{ℕ, ◌^◌, ◌≤◌, ◌<◌}
use mathlib.Core.Path.{◌≡◌, refl}
use mathlib.Core.Bool.{true}
use native.Mathlib.Omega.{arith}
use lib.Dec.{leb, ltb}
use borrow.Author.Tests.{eqb-true, le-leb, leb-true, lt-ltb, ltb-true}
use Rattle.std.specs.Prelude.{Option, Some, None}
use Rattle.config.specs.Limits.{max_nodes, max_terms, min_nodes}
use Rattle.network.specs.declared.units.Term.{Term}
use Rattle.network.proofs.Sets.{and_both}
use Rattle.phy.specs.declared.packet.Packet.{Packet}
use Rattle.wire.specs.Grammar.{data_fits, flags_fit, has_text, last_accepted_fits, nack_fits, nack_number, piggyback_fits, terms_fit}
use Rattle.wire.specs.View.{data_below}

-- the flags and the sender
pub record FlagsFit (n : ℕ) (p : Packet) : Type 0 where
  pub least : min_nodes ≤ n
  pub most : n ≤ max_nodes
  pub set : p.flags_bitmap < 2 ^ n
  pub sender : p.sender.0 < n

pub flags_fitting : (n : ℕ) (p : Packet) → flags_fit n p ≡ true → FlagsFit n p
flags_fitting n p h =
    let three = and_both _ _ h in
    let two = and_both _ _ three.0 in
    let one = and_both _ _ two.0 in
    record {
      least = leb-true _ _ one.0;
      most = leb-true _ _ one.1;
      set = ltb-true _ _ two.1;
      sender = ltb-true _ _ three.1;
    }

-- the terms and the data
pub record TermsFit (p : Packet) : Type 0 where
  pub current : p.current_term.0 < max_terms
  pub last : last_accepted_fits p.last_accepted_term ≡ true
  pub nack : nack_fits p.nack_term ≡ true
  pub own : data_fits p.current_term p.proposal_data ≡ true
  pub again : piggyback_fits p.piggyback ≡ true

pub terms_fitting : (p : Packet) → terms_fit p ≡ true → TermsFit p
terms_fitting p h =
    let four = and_both _ _ h in
    let three = and_both _ _ four.0 in
    let two = and_both _ _ three.0 in
    let one = and_both _ _ two.0 in
    record {
      current = ltb-true _ _ one.0;
      last = one.1;
      nack = two.1;
      own = three.1;
      again = four.1;
    }

pub fitting : (n : ℕ) (p : Packet) → has_text n p ≡ true → FlagsFit n p × TermsFit p
unfolding has_text
fitting n p h = let both = and_both (flags_fit n p) (terms_fit p) h in (flags_fitting n p both.0, terms_fitting p both.1)

pub has_text_lem : (n : ℕ) (p : Packet) → FlagsFit n p → TermsFit p → has_text n p ≡ true
unfolding has_text
has_text_lem n p f g =
    let least = le-leb min_nodes n f.least in
    let most = le-leb n max_nodes f.most in
    let set = lt-ltb p.flags_bitmap (2 ^ n) f.set in
    let sender = lt-ltb p.sender.0 n f.sender in
    let current = lt-ltb p.current_term.0 max_terms g.current in
    rw (least, most, set, sender, current, g.last, g.nack, g.own, g.again)

-- data of a term below 64
pub data_below_lem : (t : Term) (d : Option Term) → t.0 < max_terms → data_fits t d ≡ true → data_below d ≡ true
data_below_lem t None h e = refl
data_below_lem t (Some u) h e = lt-ltb u.0 64 (omega (arith, eqb-true u.0 t.0 e))

-- the number of a NACK
pub nack_low : (asked : Option Term) → nack_fits asked ≡ true → nack_number asked < max_terms
nack_low None fits = omega arith
nack_low (Some t) fits = ltb-true t.0 max_terms (and_both (leb 1 t.0) (ltb t.0 max_terms) fits).1
