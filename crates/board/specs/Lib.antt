pub mod Questions
pub mod Ranges
pub mod Table
pub mod Turns
