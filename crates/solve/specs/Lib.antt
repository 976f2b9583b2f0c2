pub mod Solves
pub mod Verdicts
