pub mod Sets
pub mod Typed
pub mod Examples
