-- Lemmas that several proofs of the crate use, and its laws.
pub mod Numbers
pub mod Refusals
pub mod Laws
