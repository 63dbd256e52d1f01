pub mod Choices
pub mod Typed
pub mod Examples
