-- What is right for the crate `metrics`.
pub mod Ratio
pub mod Totals
