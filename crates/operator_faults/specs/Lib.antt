pub mod Outlines
pub mod Names
pub mod Calls
pub mod Bodies
pub mod Recursions
pub mod Sketches
pub mod Faults
