-- What is right for the crate `listing`.
pub mod Listing
