-- What a look ahead shows is written. Assumes nothing.
use Prim.Native.Nat.{ℕ, ◌+◌, ◌≤◌}
use mathlib.Core.Path.{◌≡◌, refl, sym, ap, ◌∙◌}
use mathlib.Core.Bool.{Bool, true, false, cond, ◌&&◌}
use mathlib.Core.List.{List, ◌++◌}
use native.Mathlib.Nat.{le_trans}
use native.Mathlib.Omega.{arith}
use borrow.Author.Tests.{le-leb, leb-true}
use lib.Dec.{leb}
use lib.ListN.{length, drop}
use lib.Seq.{sets, length-sets, sets-eq}
use Rattle.network.proofs.Sets.{and_both}
use Rattle.phy.specs.declared.packet.Packet.{Packet}
use Rattle.rules.specs.Entries.{given_for}
use Rattle.wire.specs.Grammar.{has_text, packet_text, text_most}
use Rattle.wire.specs.Writing.{writing}
use Rattle.wire.proofs.Sizes.{no_longer_text}
use Rattle.std.specs.Prelude.{Result, Ok, Err}
use Rattle.config.specs.Refusals.{number_of}
use Rattle.config.specs.declared.refusal.Refusal.{Refusal}
use Rattle.rules.specs.declared.answer.SeenRound.{SeenRound}
use Rattle.preview.specs.Preview.{preview_for}
use Rattle.preview.proofs.Texts.{seen_have_texts}
use Rattle.marshal.specs.Packets.{packet_size, packet_numbers}
use Rattle.marshal.specs.Previews.{preview_result}
use Rattle.marshal.specs.Texts.{written, written_from}
use Rattle.marshal.proofs.Back.{packet_length, packet_formed, packet_back}
use Rattle.capi.specs.Capi.{short, if_room, returned_preview, returned_text, SeenIsWritten}
use Rattle.capi.proofs.Numbers.{refusal_numbered}

-- where the packet's slice and that for a number have their places
room : (packet number : List ℕ) (done refused : ℕ × List ℕ × List ℕ) → packet_size ≤ length packet → 1 ≤ length number → done ≡ if_room packet number done refused
unfolding if_room
room packet number done refused h l = rw (le-leb _ _ h, le-leb 1 (length number) l)

-- a packet that has a text is written where there is room for any text
written_from_lem : (p : Packet) (n : ℕ) (behind text written : List ℕ) → has_text n p ≡ true → text_most ≤ length text →
    (written_from (packet_numbers p ++ behind) n text written).0 ≡ 0
unfolding written writing
written_from_lem p n behind text written fits long =
    rw (packet_formed p behind, packet_back p behind, fits, le-leb (length (packet_text n p)) (length text) (le_trans (no_longer_text n p fits) long))

-- from a slice that its numbers were stored to
from_slice : (p : Packet) (n : ℕ) (packet text written : List ℕ) → packet_size ≤ length packet → has_text n p ≡ true → text_most ≤ length text → 1 ≤ length written →
    (returned_text (sets packet 0 (packet_numbers p)) n text written).0 ≡ 0
from_slice p n packet text written h fits long place =
    let stored = sets packet 0 (packet_numbers p) in
    let laid : stored ≡ packet_numbers p ++ drop (0 + length (packet_numbers p)) packet = sets-eq (packet_numbers p) packet 0 (omega (arith, packet_length p)) in
    ap (λ r. r.0) (sym (room stored written _ _ (omega (arith, length-sets packet 0 (packet_numbers p))) place))
    ∙ ap (λ l. (written_from l n text written).0) laid
    ∙ written_from_lem p n _ text written fits long

-- a result of 0 is not that of a slice that is too short
done : (packet part : List ℕ) (given refused : ℕ × List ℕ × List ℕ) → refused.0 ≡ short → (if_room packet part given refused).0 ≡ 0 →
    (packet_size ≤ length packet) × (if_room packet part given refused ≡ given)
unfolding if_room
done packet part given refused r e = go (leb packet_size (length packet)) refl (leb 1 (length part)) e
  where
    go : (a : Bool) → leb packet_size (length packet) ≡ a → (b : Bool) → (cond (a && b) given refused).0 ≡ 0 → (packet_size ≤ length packet) × (cond (a && b) given refused ≡ given)
    go true h true e = (leb-true packet_size (length packet) h, refl)
    go true h false e = absurd (omega (arith, r, e))
    go false h b e = absurd (omega (arith, r, e))

pub seen_is_written : SeenIsWritten
seen_is_written q c k packet part text written e long place = go (preview_for q c k) refl e
  where
    go : (v : Result SeenRound Refusal) → preview_for q c k ≡ v → (returned_preview v packet part).0 ≡ 0 → (returned_text (returned_preview v packet part).1 (given_for q c).nodes text written).0 ≡ 0
    go (Ok seen) is e =
        let there = done packet part (preview_result number_of (Ok seen) packet part) (short, packet, part) refl e in
        ap (λ r. (returned_text r.1 (given_for q c).nodes text written).0) there.1
        ∙ from_slice seen.packet (given_for q c).nodes packet text written there.0 (seen_have_texts q c k seen is) long place
    go (Err j) is e =
        let there = done packet part (preview_result number_of (Err j) packet part) (short, packet, part) refl e in
        let zero : number_of j ≡ 0 = sym (ap (λ r. r.0) there.1) ∙ e in
        absurd (omega (arith, zero, leb-true 1 (number_of j) (and_both (leb 1 (number_of j)) (leb (number_of j) 99) (refusal_numbered j)).0))
