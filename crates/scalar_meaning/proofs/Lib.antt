mod Related
pub mod Ranges
mod Fitting
mod Operators
pub mod Kept
