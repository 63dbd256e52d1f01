pub mod Plans
pub mod Conditionals
