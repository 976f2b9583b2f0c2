pub mod Double
