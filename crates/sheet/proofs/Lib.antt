pub mod Loops
pub mod Steps
pub mod Ending
pub mod Spans
pub mod Accepted
