-- What is right for the program.
pub mod Verdict
