pub mod Releases
pub mod Rows
pub mod Tables
pub mod Shown
