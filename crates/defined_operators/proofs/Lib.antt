pub mod Answered
pub mod Plain
pub mod Sorting
pub mod Standing
pub mod Unused
pub mod Unwritten
pub mod Weights
