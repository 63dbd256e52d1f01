pub mod Joins
pub mod Typed
pub mod Examples
