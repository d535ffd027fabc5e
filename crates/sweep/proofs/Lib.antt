-- The laws of sweeps, and what stands behind the functions.
pub mod Seeds
pub mod Lines
pub mod Asked
pub mod Laws
