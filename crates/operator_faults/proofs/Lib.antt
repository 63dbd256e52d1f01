pub mod Parts
pub mod Finds
