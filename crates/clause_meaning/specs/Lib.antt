pub mod Workings
pub mod Clauses
pub mod Examples
pub mod Ordered
