pub mod PointClauses
pub mod OnClauses
pub mod JoinClauses
pub mod OnSets
pub mod OnChecks
pub mod OnRules
pub mod Expressions
pub mod Examples
