-- What is right for the crate `text`.
pub mod Numeral
pub mod Overlay
pub mod Text
