-- The laws of a look ahead.
pub mod Seen
pub mod Texts
