pub mod Number
pub mod Text
