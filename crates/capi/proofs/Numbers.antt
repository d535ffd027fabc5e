-- The number of a refusal is above 0 and below 100. So a result of 0 says that the entry is done, and 100 and above mean what the
-- entries for C say.
-- Assumes nothing.
use Rattle.std.specs.Prelude.{◌≡◌, ℕ, Bool, true, false, cond, ◌&&◌, List, [], ◌∷◌, length, leb, Option, Some, None, Result, Ok, Err}
use Rattle.std.proofs.Common.{refl}
use Rattle.std.proofs.lemmas.List.Edits.{sets}
use Rattle.config.specs.Refusals.{number_of}
use Rattle.config.specs.declared.refusal.Refusal.{Refusal}
use Rattle.network.specs.Questions.{within}
use Rattle.phy.specs.declared.packet.Packet.{Packet}
use Rattle.wire.specs.Grammar.{has_text, packet_text}
use Rattle.wire.specs.Writing.{writing}
use Rattle.wire_reader.specs.Reader.{packet}
use Rattle.wire_reader.specs.Reading.{nothing_behind, reading}
use Rattle.archive.specs.Layout.{layout}
use Rattle.rules.specs.Questions.{refusal_for}
use Rattle.archive_writer.specs.Filed.{network_in}
use Rattle.archive_check.specs.Check.{asked_in, checked_unless, check_of}

-- whatever an entry is refused for
pub refusal_numbered : (r : Refusal) → within 1 99 (number_of r) ≡ true
refusal_numbered Refusal.UnknownTopology = refl
refusal_numbered Refusal.NodeCount = refl
refusal_numbered Refusal.SecondNumber = refl
refusal_numbered Refusal.WrongRows = refl
refusal_numbered Refusal.RepeatCount = refl
refusal_numbered Refusal.RoundLength = refl
refusal_numbered Refusal.LossRate = refl
refusal_numbered Refusal.ProposalCount = refl
refusal_numbered Refusal.ZeroInterval = refl
refusal_numbered Refusal.ShortBuffers = refl
refusal_numbered Refusal.LargeCount = refl
refusal_numbered Refusal.UnreadableLine = refl
refusal_numbered Refusal.NoSuchRound = refl
refusal_numbered Refusal.NoText = refl
refusal_numbered Refusal.SweepTable = refl
refusal_numbered Refusal.ShortRound = refl
refusal_numbered Refusal.BrokenLayout = refl
refusal_numbered Refusal.ShortFile = refl
refusal_numbered Refusal.FieldsDiffer = refl

-- the writer and the reader of packets refuse by 14 alone
pub text_numbered : (p : Packet) (n : ℕ) (out : List ℕ) (r : Refusal) → (writing p n out).0 ≡ Err r → r ≡ Refusal.NoText
unfolding writing
text_numbered p n out r e = go (has_text n p && leb (length (packet_text n p)) (length out)) e
  where
    go : (b : Bool)
        → (cond {A = Result ℕ Refusal × List ℕ} b (Ok (length (packet_text n p)), sets out 0 (packet_text n p)) (Err Refusal.NoText, out)).0 ≡ Err r
        → r ≡ Refusal.NoText
    go true p = cc
    go false p = cc

pub packet_numbered : (t : List ℕ) (r : Refusal) → reading t ≡ Err r → r ≡ Refusal.NoText
unfolding reading
packet_numbered t r e = go (packet t) e
  where
    go : (o : Option ((Packet × ℕ) × List ℕ)) → nothing_behind o ≡ Err r → r ≡ Refusal.NoText
    go None p = cc
    go (Some (x, [])) p = cc
    go (Some (x, b ∷ u)) p = cc

-- the check refuses by 17 alone
pub check_numbered : (file : List ℕ) (r : Refusal) → check_of file ≡ Err r → r ≡ Refusal.BrokenLayout
unfolding check_of
check_numbered file r e = kept (layout file) e
  where
    kept : (b : Bool) → cond b (Ok (checked_unless (refusal_for (network_in (asked_in file)) (asked_in file).config) file)) (Err Refusal.BrokenLayout) ≡ Err r → r ≡ Refusal.BrokenLayout
    kept true p = cc
    kept false p = cc
