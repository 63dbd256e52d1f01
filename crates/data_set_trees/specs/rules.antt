pub mod Rules
pub mod Datapoints
pub mod Hierarchies
pub mod Laws
pub mod Examples
