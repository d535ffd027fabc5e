-- Lemmas that several proofs of the crate use.
pub mod Agreeing
pub mod Replaying
pub mod Alike
pub mod Ended
pub mod Checks
pub mod Passing
