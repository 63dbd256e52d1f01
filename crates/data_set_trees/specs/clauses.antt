pub mod Frames
pub mod After
pub mod Clauses
pub mod WellTyped
pub mod Laws
