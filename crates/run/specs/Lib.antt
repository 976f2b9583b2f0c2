pub mod Answers
pub mod Begins
