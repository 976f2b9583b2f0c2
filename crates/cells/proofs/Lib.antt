pub mod Alternate
pub mod Asked
pub mod Kept
pub mod Leading
pub mod Nexts
pub mod Reading
pub mod Sweeps
