pub mod Blanks
pub mod Letters
pub mod Places
pub mod Replacing
pub mod Patterns
pub mod Stops
