pub mod Checked
pub mod Reporting
pub mod Settled
