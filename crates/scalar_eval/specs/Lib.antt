pub mod Stops
pub mod Shapes
