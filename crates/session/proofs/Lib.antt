pub mod Attending
pub mod Promising
