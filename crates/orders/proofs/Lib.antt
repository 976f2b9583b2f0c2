pub mod Extremes
pub mod Lowest
pub mod Pigeons
