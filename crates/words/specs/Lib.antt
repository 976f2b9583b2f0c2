pub mod Kinds
pub mod Numerals
pub mod Parts
