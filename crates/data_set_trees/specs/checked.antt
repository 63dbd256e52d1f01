pub mod Choices
pub mod Uses
pub mod Operators
pub mod Expressions
pub mod Typing
pub mod Scripts
