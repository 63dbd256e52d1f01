pub mod Kinds
pub mod WellTyped
pub mod Erased
pub mod typing
