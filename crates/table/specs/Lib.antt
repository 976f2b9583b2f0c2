pub mod Fit
pub mod Laws
pub mod Meaning
pub mod Ranges
