pub mod Cells
pub mod Leads
pub mod Said
pub mod Written
