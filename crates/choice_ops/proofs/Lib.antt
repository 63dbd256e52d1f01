pub mod Places
pub mod Steps
pub mod Chosen
pub mod Marked
pub mod Shared
