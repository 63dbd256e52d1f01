pub mod Operands
pub mod Each
