pub mod Groups
pub mod Results
pub mod Aggregates
pub mod WellTyped
pub mod Laws
pub mod Examples
