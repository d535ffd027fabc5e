-- The laws that several proofs of the crate use.
pub mod Full
pub mod Beginning
pub mod Rounds
pub mod Underway
