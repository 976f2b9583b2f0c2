pub mod Bitwise
pub mod First
