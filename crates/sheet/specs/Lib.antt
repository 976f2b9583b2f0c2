pub mod Takes
pub mod Sections
pub mod Filled
pub mod Spells
