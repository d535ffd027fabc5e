-- What is right for the crate `network`.
pub mod Graph
pub mod Questions
pub mod Topology
pub mod Builders
pub mod Distance
pub mod Members
