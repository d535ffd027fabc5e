-- What the reader of packets answers (rule 15.7), and how reader and writer belong together.
use Rattle.std.specs.Prelude.{ℕ, ◌≤◌, ◌≡◌, true, ◌↔◌, List, [], ◌∷◌, length, take, Option, Some, None, Result, Ok, Err}
use Rattle.std.proofs.lemmas.List.Edits.{sets}
use Rattle.config.specs.declared.refusal.Refusal.{Refusal}
use Rattle.phy.specs.declared.packet.Packet.{Packet}
use Rattle.wire.specs.Grammar.{has_text, packet_text}
use Rattle.wire.specs.Writing.{writing}
use Rattle.wire_reader.specs.Reader.{packet}

-- nothing stands behind the packet
abbrev pub nothing_behind : Option ((Packet × ℕ) × List ℕ) → Result (Packet × ℕ) Refusal
nothing_behind (Some (x, [])) = Ok x
nothing_behind (Some (x, b ∷ t)) = Err Refusal.NoText
nothing_behind None = Err Refusal.NoText

-- The reader's answer: the packet and its number of flags. Other bytes are no packet's text.
unfoldable pub reading : List ℕ → Result (Packet × ℕ) Refusal
reading t = nothing_behind (packet t)

-- The reader takes exactly the texts of packets: nothing before them, nothing behind them.
abbrev pub ExactlyTheTexts : Type 0
ExactlyTheTexts = (t : List ℕ) (p : Packet) (n : ℕ) → (reading t ≡ Ok (p, n)) ↔ (has_text n p ≡ true) × (t ≡ packet_text n p)

-- Reading what the writer made gives the packet and its number of flags.
abbrev pub WhatIsWrittenIsRead : Type 0
WhatIsWrittenIsRead = (p : Packet) (n : ℕ) (out : List ℕ) (size : ℕ) → (writing p n out).0 ≡ Ok size → reading (take size (writing p n out).1) ≡ Ok (p, n)

-- A text that is read is what the writer makes of the answer.
abbrev pub WhatIsReadIsWritten : Type 0
WhatIsReadIsWritten =
    (t : List ℕ) (p : Packet) (n : ℕ) → reading t ≡ Ok (p, n) →
    (out : List ℕ) → length t ≤ length out → writing p n out ≡ (Ok (length t), sets out 0 t)

-- Two packets with equal texts are equal, and have equally many flags.
abbrev pub TextsTellApart : Type 0
TextsTellApart = (p q : Packet) (n m : ℕ) → has_text n p ≡ true → has_text m q ≡ true → packet_text n p ≡ packet_text m q → (p ≡ q) × (n ≡ m)
