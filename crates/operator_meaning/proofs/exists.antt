pub mod Agreed
pub mod Told
pub mod Fits
pub mod Worked
