pub mod Codes
pub mod Numerals
pub mod Order
pub mod Ranges
pub mod Structures
pub mod Texts
