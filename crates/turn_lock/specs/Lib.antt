pub mod Calls
pub mod Pass
pub mod Rule
pub mod Steps
