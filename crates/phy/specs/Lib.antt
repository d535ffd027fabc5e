-- What is right for the crate `phy`.
pub mod Limits
pub mod Packets
pub mod Node
pub mod Slot
pub mod Snapshots
pub mod Round
pub mod Coverage
pub mod Asleep
pub mod View
