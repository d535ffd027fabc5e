-- What the code of the rounds stands for.
pub mod Going
