pub mod Fields
pub mod Fits
pub mod Json
pub mod Paths
pub mod Reading
pub mod Refusals
