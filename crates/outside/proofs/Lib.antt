pub mod Found
pub mod Writes
