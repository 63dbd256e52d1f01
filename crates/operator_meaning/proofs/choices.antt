pub mod Parts
pub mod Keys
pub mod Chosen
pub mod Virals
pub mod Fits
pub mod Worked
