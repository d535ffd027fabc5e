-- The laws of the crate.
--     Numbers      a refusal's number is 1 to 99
--     SeenWritten  what a look ahead shows is written
pub mod Numbers
pub mod SeenWritten
