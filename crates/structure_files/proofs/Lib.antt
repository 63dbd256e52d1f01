pub mod Meanings
pub mod Placing
pub mod Steps
