pub mod Boards
pub mod Joins
pub mod Loads
