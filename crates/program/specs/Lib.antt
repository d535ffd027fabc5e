-- What the program answers, and the starred runs.
pub mod Printed
pub mod StarredRuns
