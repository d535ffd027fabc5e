-- The results of writing and of reading a packet's text (rules 15.8 and 15.9).
use Rattle.std.specs.Prelude.{ℕ, cond, List, [], ◌∷◌, Result, Ok, Err}
use Rattle.std.proofs.lemmas.List.Edits.{sets}
use Rattle.config.specs.Refusals.{number_of}
use Rattle.config.specs.declared.refusal.Refusal.{Refusal}
use Rattle.phy.specs.declared.packet.Packet.{Packet}
use Rattle.wire.specs.Writing.{writing}
use Rattle.marshal.specs.Packets.{packet_numbers, formed, packet_at}

-- the result, the text's slice and that of its length
abbrev pub writing_result : Result ℕ Refusal × List ℕ → List ℕ → ℕ × List ℕ × List ℕ
writing_result (Ok n, text) size = (0, text, sets size 0 (n ∷ []))
writing_result (Err r, text) size = (number_of r, text, size)

-- the packet that the numbers are, written; numbers that are no packet's have no text
unfoldable pub written : List ℕ → ℕ → List ℕ → Result ℕ Refusal × List ℕ
written numbers n text = cond (formed numbers) (writing (packet_at numbers) n text) (Err Refusal.NoText, text)

abbrev pub written_from : List ℕ → ℕ → List ℕ → List ℕ → ℕ × List ℕ × List ℕ
written_from numbers n text size = writing_result (written numbers n text) size

-- the result, the packet's slice and that of its number of flags
abbrev pub reading_result : {R : Type 0} → (R → ℕ) → Result (Packet × ℕ) R → List ℕ → List ℕ → ℕ × List ℕ × List ℕ
reading_result number (Ok (p, n)) packet flags = (0, sets packet 0 (packet_numbers p), sets flags 0 (n ∷ []))
reading_result number (Err r) packet flags = (number r, packet, flags)
