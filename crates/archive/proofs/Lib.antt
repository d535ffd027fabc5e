-- Lemmas that several proofs of the crate use.
pub mod ByteLaws
pub mod InputLaws
pub mod Orders
pub mod Sections
