-- What the buffers of a run need, and its summary.
pub mod Filling
