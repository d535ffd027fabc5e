-- What is right for the crate `wire`.
pub mod Grammar
pub mod View
pub mod Writing
