pub mod Counting
pub mod Extremes
pub mod Lowest
