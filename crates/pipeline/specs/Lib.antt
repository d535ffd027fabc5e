-- What is right for the crate `pipeline`.
pub mod Round
pub mod View
