pub mod Attends
pub mod Notes
pub mod Serves
