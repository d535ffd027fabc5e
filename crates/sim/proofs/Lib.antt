-- The laws that several proofs of the crate use.
pub mod Copies
pub mod Filled
