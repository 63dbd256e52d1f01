pub mod Rows
pub mod Combinations
pub mod Noted
pub mod Counts
pub mod Reach
pub mod Rules
