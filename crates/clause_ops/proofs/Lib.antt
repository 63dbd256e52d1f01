pub mod Marked
pub mod Measured
pub mod Meant
pub mod Shared
