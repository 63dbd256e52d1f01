mod Leading
mod Levels
pub mod Sizes
