pub mod Pairs
pub mod Typed
pub mod Examples
