-- Text laid over a lent buffer (rule 11.7).
use Rattle.std.specs.Prelude.{ℕ, ◌+◌, ◌^◌, ◌≤◌, ◌<◌, ◌≡◌, List, length}
use Rattle.std.proofs.lemmas.List.Edits.{sets}
use Rattle.text.specs.declared.overlay.Overlay.{Overlay}

-- A text of at most `most` bytes is laid over the start of a buffer: the buffer's contents before and after, and the text's length. `sets`
-- stores the bytes one by one, and a store past the buffer's end does nothing: bytes that don't fit are dropped.
pub record Written (most : ℕ) (text before after : List ℕ) (size : ℕ) : Type 0 where
  pub contents : after ≡ sets before 0 text
  pub sized : size ≡ length text
  pub at_most : length text ≤ most

-- A text of at most `most` bytes is laid over a lent buffer from the place on; the place is then the one behind it. Bytes that don't fit are
-- dropped. What is lent stays the same buffer.
pub record Lays (most : ℕ) (text : List ℕ) (before after : Overlay) : Type 0 where
  pub contents : after.out.now ≡ sets before.out.now before.at text
  pub place : after.at ≡ before.at + length text
  pub at_most : length text ≤ most
  pub same_buffer : after.out.ghost_name ≡ before.out.ghost_name

-- a text of at most `most` bytes from the place `at` on: the place behind it is a number of 64 bits
abbrev pub Room : ℕ → ℕ → Type 0
Room at most = at + most < 2 ^ 64
