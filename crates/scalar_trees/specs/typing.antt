pub mod Steps
pub mod Operators
pub mod Scopes
pub mod Scalars
pub mod Sound
pub mod Resolved
pub mod Laws
