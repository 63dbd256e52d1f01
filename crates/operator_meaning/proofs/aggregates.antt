pub mod Groups
pub mod Covered
pub mod Reduced
pub mod Rows
pub mod Fits
pub mod Worked
