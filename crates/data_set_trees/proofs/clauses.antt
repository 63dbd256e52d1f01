pub mod Parts
pub mod Ordered
pub mod Changes
pub mod Names
pub mod Made
pub mod Typed
