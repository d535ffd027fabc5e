-- The laws of the text, and lemmas that several proofs of the crate use.
pub mod Digits
pub mod Flags
pub mod FlagsSeen
pub mod Fronts
pub mod Laws
pub mod Parts
pub mod Words
