-- The laws of the crate.
pub mod Back
