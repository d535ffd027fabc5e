-- The result of a look ahead (rules 7.7 and 9.4).
use Rattle.std.specs.Prelude.{ℕ, List, [], ◌∷◌, Result, Ok, Err}
use Rattle.std.proofs.lemmas.List.Edits.{sets}
use Rattle.rules.specs.declared.answer.SeenRound.{SeenRound}
use Rattle.marshal.specs.Packets.{packet_numbers}

-- the result, the packet's slice and that of the set
abbrev pub preview_result : {R : Type 0} → (R → ℕ) → Result SeenRound R → List ℕ → List ℕ → ℕ × List ℕ × List ℕ
preview_result number (Ok v) packet part = (0, sets packet 0 (packet_numbers v.packet), sets part 0 (v.part ∷ []))
preview_result number (Err r) packet part = (number r, packet, part)
