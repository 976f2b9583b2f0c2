pub mod Paths
pub mod Plays
