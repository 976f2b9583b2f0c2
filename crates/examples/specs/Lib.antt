pub mod Claims
pub mod PeakAndEnergy
pub mod Sheets
pub mod Worked
