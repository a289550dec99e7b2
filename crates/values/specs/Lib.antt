-- What the answers of the crate's steps mean.
pub mod Answers
