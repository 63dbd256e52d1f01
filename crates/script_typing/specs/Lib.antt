pub mod Stops
pub mod States
pub mod Views
pub mod Scripts
