pub mod Digits
pub mod Holds
pub mod InRange
pub mod Means
