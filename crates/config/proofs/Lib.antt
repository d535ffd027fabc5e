-- Lemmas that several proofs of the crate use.
pub mod Rates
pub mod Unless
