-- Lemmas that several proofs of the crate use, and the laws of its files.
pub mod Made
pub mod Laws
pub mod Lays
pub mod Overs
pub mod Filings
