pub mod Counted
pub mod Alike
pub mod Covered
pub mod Read
pub mod Words
pub mod Fits
pub mod Worked
