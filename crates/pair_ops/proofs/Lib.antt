pub mod Agree
pub mod Asked
pub mod Both
pub mod Folds
pub mod Meetings
pub mod Parts
pub mod ReachLemmas
pub mod Shared
