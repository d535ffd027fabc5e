-- The laws that several proofs of the crate use.
--     Pairs      which of two files supersedes, from the answers to the questions
--     Beginning  the records of a filed run are the beginning of those of one with a larger slot limit
pub mod Pairs
pub mod Beginning
