pub mod Exists
pub mod Typed
pub mod Examples
