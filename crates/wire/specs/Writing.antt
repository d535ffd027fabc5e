-- What the writer of packets answers (rule 15.6).
use Rattle.std.specs.Prelude.{ℕ, ◌≤◌, ◌≡◌, true, cond, ◌&&◌, List, leb, length, Result, Ok, Err}
use Rattle.std.proofs.lemmas.List.Edits.{sets}
use Rattle.config.specs.declared.refusal.Refusal.{Refusal}
use Rattle.phy.specs.declared.packet.Packet.{Packet}
use Rattle.wire.specs.Grammar.{has_text, packet_text, text_most}

-- The writer's answer, and what the buffer holds afterwards: a packet with no text is refused, and so is a buffer too short for it.
unfoldable pub writing : Packet → ℕ → List ℕ → Result ℕ Refusal × List ℕ
writing p n out =
    let text = packet_text n p in
    cond (has_text n p && leb (length text) (length out)) (Ok (length text), sets out 0 text) (Err Refusal.NoText, out)

-- No text has more than 366 bytes.
abbrev pub NoLongerText : Type 0
NoLongerText = (n : ℕ) (p : Packet) → has_text n p ≡ true → length (packet_text n p) ≤ text_most
