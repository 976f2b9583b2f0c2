pub mod Benches
pub mod Same
pub mod Sheets
pub mod Tasks
