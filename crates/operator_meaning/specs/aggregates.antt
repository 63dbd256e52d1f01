pub mod Reductions
pub mod Groups
pub mod Aggregates
pub mod Examples
