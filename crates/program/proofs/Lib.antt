-- The laws of the crate.
--     Texts         what the program writes for a line
--     ExactPrinted  the printed run meets demand 3's premises
--     StarredRuns   the values of section 14 that are proved, in one table
pub mod Texts
pub mod ExactPrinted
pub mod StarredRuns
