pub mod Sheets
pub mod Tests
