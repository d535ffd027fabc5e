use Rattle.std.proofs.Common.{rules, refl, ℕ, ◌≤◌, ◌<◌, ◌≡◌, sym, ap, ap₂, ◌∙◌, true, false, List, length, Ok, Err, arith, zero-add}
use mathlib.Core.Bool.{and-false}
use lib.Seq.{sets}
use borrow.Author.Tests.{le-leb, lt-leb}
use Rattle.config.specs.declared.refusal.Refusal.{Refusal}
use Rattle.phy.specs.declared.packet.Packet.{Packet}
use Rattle.text.proofs.Overlays.{whole, written_text}
use Rattle.wire.specs.Grammar.{has_text, packet_text}
use Rattle.wire.specs.Writing.{writing}
use Rattle.wire.proofs.write_packet.Goals as goal

-- the three answers
module _ (p : Packet) (n : ℕ) (out : List ℕ) where
  textless : has_text n p ≡ false → writing p n out ≡ (Err Refusal.NoText, out)
  unfolding writing
  textless e = simp e

  too_long : length out < length (packet_text n p) → writing p n out ≡ (Err Refusal.NoText, out)
  unfolding writing
  too_long h = simp (lt-leb (length (packet_text n p)) (length out) h, and-false)

  fitting : has_text n p ≡ true → length (packet_text n p) ≤ length out → writing p n out ≡ (Ok (length (packet_text n p)), sets out 0 (packet_text n p))
  unfolding writing
  fitting e h = simp (e, le-leb (length (packet_text n p)) (length out) h)

pub returns-then-not-has_text : goal.returns-then-not-has_text
returns-then-not-has_text c = sym (textless c.args.packet c.args.flags c.args.out.now (sym c.has_text.ensures ∙ c.if-not-has_text.true))

pub returns-then-out-size : goal.returns-then-out-size
returns-then-out-size c =
    let size : c.put_packet.new.over.at ≡ length (packet_text c.args.flags c.args.packet) = c.put_packet.ensures.place ∙ zero-add _ in
    sym (too_long c.args.packet c.args.flags c.args.out.now (omega (arith, size, c.if-out-size.true)))

pub returns : goal.returns
returns c =
    let laid = c.put_packet.ensures in
    let size : c.put_packet.new.over.at ≡ length (packet_text c.args.flags c.args.packet) = laid.place ∙ zero-add _ in
    ap₂ (λ (n : ℕ) (l : List ℕ). (Ok n, l)) size (c.copy.ensures ∙ ap (sets c.args.out.now 0) (written_text (whole laid refl (search rules)) laid.at_most))
    ∙ sym (fitting c.args.packet c.args.flags c.args.out.now (sym c.has_text.ensures ∙ c.if-not-has_text.false) (omega (arith, size, c.if-out-size.false)))
