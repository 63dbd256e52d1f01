pub mod Roles
pub mod Points
pub mod Evaluations
pub mod Measures
