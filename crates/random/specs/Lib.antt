-- What is right for the crate `random`.
pub mod Table
pub mod Word
pub mod Seed
pub mod ChaCha
pub mod TurnedRows
pub mod Draws
pub mod Reception
