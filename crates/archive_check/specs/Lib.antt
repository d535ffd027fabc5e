-- What is right for the crate `archive_check`.
pub mod Check
pub mod Again
pub mod Laws
pub mod Working
