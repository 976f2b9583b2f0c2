pub mod Arrows
pub mod Follows
pub mod Means
