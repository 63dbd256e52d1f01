pub mod Content
pub mod Faults
pub mod Named
pub mod PointRules
