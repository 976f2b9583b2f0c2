pub mod Joins
pub mod Product
