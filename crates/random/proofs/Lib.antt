-- The laws that several proofs and the crates above cite.
pub mod Tables
pub mod Products
pub mod Bits
pub mod Rotations
pub mod Stream
pub mod Fractions
