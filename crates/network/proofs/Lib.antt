-- The laws that several proofs and the crates above cite.
pub mod Sets
pub mod Lowest
pub mod Masks
pub mod Rows
pub mod Within
pub mod Spread
pub mod Reach
pub mod Distances
pub mod Checks
pub mod Topologies
pub mod Grids
pub mod Built
pub mod Starred
