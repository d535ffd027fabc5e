-- Lemmas that several proofs of the crate use.
pub mod Arrays
pub mod Fitting
pub mod Sizes
