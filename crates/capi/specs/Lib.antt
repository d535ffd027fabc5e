-- What is right for the crate `capi`.
pub mod Capi
pub mod Files
