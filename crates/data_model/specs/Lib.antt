pub mod Answers
pub mod Deltas
pub mod Drafts
pub mod Entries
pub mod Examples
pub mod Maps
pub mod Outcomes
