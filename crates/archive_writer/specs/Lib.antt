-- What is right for the crate `archive_writer`.
pub mod Filed
pub mod Filing
pub mod Working
