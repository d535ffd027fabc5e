-- Lemmas that several proofs of the crate use.
pub mod Fields
pub mod Long
