-- Two packets are the same by the code's test exactly when they are equal. Assumes nothing.
use Rattle.std.specs.Prelude.{Option, Some, None}
use mathlib.Core.Path.{◌≡◌, refl, sym, ap, ap₂, ◌∙◌}
use Prim.Native.Nat.{ℕ}
use mathlib.Core.Bool.{true, ◌&&◌}
use mathlib.Core.Logic.{◌↔◌}
use borrow.Author.Tests.{eqb-true, eq-eqb}
use Rattle.network.specs.declared.units.Term.{Term}
use Rattle.network.proofs.Sets.{and_both, never}
use Rattle.phy.specs.declared.packet.Piggyback.{Piggyback}
use Rattle.phy.specs.declared.packet.Packet.{Packet}
use Rattle.phy.specs.Packets.{term_in, piggyback_term, piggyback_data, same_term, same_packet}

-- ---- a term tells what it is the term of
abbrev pick : {A : Type 0} → A → (Term → A) → Option ℕ → A
pick without with None = without
pick without with (Some t) = with (record { 0 = t })

by_term : {A : Type 0} (part : A → Option ℕ) (without : A) (with : Term → A) → ((a : A) → pick without with (part a) ≡ a) → (a b : A) → part a ≡ part b → a ≡ b
by_term part without with back a b e = sym (back a) ∙ ap (pick without with) e ∙ back b

term_back : (a : Option Term) → pick None Some (term_in a) ≡ a
term_back None = refl
term_back (Some t) = refl

piggyback_back : (a : Option Piggyback) → pick None (λ (t : Term). Some (record { term = t; «data» = piggyback_data a })) (piggyback_term a) ≡ a
piggyback_back None = refl
piggyback_back (Some again) = refl

-- ---- equal fields make equal packets
module _ (p q : Packet)
    (term : p.current_term.0 ≡ q.current_term.0)
    (flags : p.flags_bitmap ≡ q.flags_bitmap)
    (sender : p.sender.0 ≡ q.sender.0)
    (nack : term_in p.nack_term ≡ term_in q.nack_term)
    (last : term_in p.last_accepted_term ≡ term_in q.last_accepted_term)
    (own : term_in p.proposal_data ≡ term_in q.proposal_data)
    (back : piggyback_term p.piggyback ≡ piggyback_term q.piggyback)
    (again : term_in (piggyback_data p.piggyback) ≡ term_in (piggyback_data q.piggyback)) where
  piggyback_equal : p.piggyback ≡ q.piggyback
  piggyback_equal =
      let same = by_term term_in None Some term_back (piggyback_data p.piggyback) (piggyback_data q.piggyback) again in
      sym (piggyback_back p.piggyback) ∙ ap₂ (λ (d : Option Term) (x : Option ℕ). pick None (λ (t : Term). Some (record { term = t; «data» = d })) x) same back ∙ piggyback_back q.piggyback

  pub packet_equal : p ≡ q
  packet_equal =
      λ i.
      record {
        current_term = record { 0 = term i };
        last_accepted_term = by_term term_in None Some term_back p.last_accepted_term q.last_accepted_term last i;
        flags_bitmap = flags i;
        nack_term = by_term term_in None Some term_back p.nack_term q.nack_term nack i;
        sender = record { 0 = sender i };
        proposal_data = by_term term_in None Some term_back p.proposal_data q.proposal_data own i;
        piggyback = piggyback_equal i;
      }

term_equal : (x y : Option ℕ) → same_term x y ≡ true → x ≡ y
term_equal None None e = refl
term_equal None (Some u) e = never e refl
term_equal (Some t) None e = never e refl
term_equal (Some t) (Some u) e = ap Some (eqb-true t u e)

pub same_packet_equal : (p q : Packet) → same_packet p q ≡ true → p ≡ q
unfolding same_packet
same_packet_equal p q e =
    let halves = and_both _ _ e in
    let left = and_both _ _ halves.0 in
    let right = and_both _ _ halves.1 in
    let a = and_both _ _ left.0 in
    let b = and_both _ _ left.1 in
    let c = and_both _ _ right.0 in
    let d = and_both _ _ right.1 in
    packet_equal p q (eqb-true _ _ a.0) (eqb-true _ _ a.1) (eqb-true _ _ b.0) (term_equal _ _ b.1) (term_equal _ _ c.0) (term_equal _ _ c.1) (term_equal _ _ d.0) (term_equal _ _ d.1)

term_itself : (x : Option ℕ) → same_term x x ≡ true
term_itself None = refl
term_itself (Some t) = eq-eqb t t refl

-- a packet passes the test with itself
pub same_packet_itself : (p : Packet) → same_packet p p ≡ true
unfolding same_packet
same_packet_itself p =
    ap₂ ◌&&◌
    (ap₂ ◌&&◌ (ap₂ ◌&&◌ (eq-eqb p.current_term.0 p.current_term.0 refl) (eq-eqb p.flags_bitmap p.flags_bitmap refl)) (ap₂ ◌&&◌ (eq-eqb p.sender.0 p.sender.0 refl) (term_itself (term_in p.nack_term))))
    (ap₂ ◌&&◌ (ap₂ ◌&&◌ (term_itself (term_in p.last_accepted_term)) (term_itself (term_in p.proposal_data))) (ap₂ ◌&&◌ (term_itself (piggyback_term p.piggyback)) (term_itself (term_in (piggyback_data p.piggyback)))))

-- the test passes exactly at equal packets
pub same_packet_lem : (p q : Packet) → (same_packet p q ≡ true) ↔ (p ≡ q)
same_packet_lem p q = (same_packet_equal p q, λ e. ap (same_packet p) (sym e) ∙ same_packet_itself p)
