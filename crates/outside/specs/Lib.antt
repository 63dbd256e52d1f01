pub mod Counts
pub mod Memory
pub mod Real
pub mod Shelves
pub mod Sinks
