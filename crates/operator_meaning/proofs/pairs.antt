pub mod Names
pub mod Joined
pub mod Keys
pub mod Paired
pub mod Virals
pub mod Fits
pub mod Worked
