-- Lemmas that several proofs of the crate use.
pub mod Digits
pub mod Front
pub mod Numerals
pub mod Overlays
pub mod Spelling
