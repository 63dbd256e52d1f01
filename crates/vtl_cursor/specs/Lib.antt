pub mod Limits
pub mod Views
pub mod Plain
pub mod Lists
pub mod Choices
pub mod Faults
