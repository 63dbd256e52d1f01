pub mod Items
pub mod Order
pub mod Fitting
pub mod Named
pub mod Steps
mod Agreeing
mod Aliases
mod Naming
