-- What is right for the crate `archive`.
pub mod Bytes
pub mod Layout
pub mod Inputs
pub mod File
pub mod Laws
