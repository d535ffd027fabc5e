-- What is right for the crate `line`.
pub mod Line
pub mod Configured
