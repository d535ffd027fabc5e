-- What is right for the crate `archive_supersede`.
pub mod Supersede
pub mod Laws
