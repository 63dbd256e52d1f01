pub mod Binds
pub mod Fits
pub mod Follows
