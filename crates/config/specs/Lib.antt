-- What is right for the crate `config`.
pub mod Limits
pub mod Refusals
