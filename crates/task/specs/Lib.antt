pub mod Dfa
pub mod Signs
