pub mod Before
pub mod Marks
