pub mod Each
pub mod Placed
pub mod Split
pub mod Turns
