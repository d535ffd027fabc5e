-- What a look ahead answers.
pub mod Preview
