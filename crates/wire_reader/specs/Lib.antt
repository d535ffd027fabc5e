-- What is right for the crate `wire_reader`.
pub mod Reader
pub mod Reading
pub mod View
