pub mod Flat
pub mod Meaning
pub mod Ranges
