-- What a sweep answers, and what it leaves in its table.
pub mod Sweep
pub mod Laws
pub mod Working
