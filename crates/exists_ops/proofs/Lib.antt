pub mod ShiftLemmas
pub mod NumberLemmas
pub mod PartLemmas
pub mod Noting
pub mod ReachLemmas
pub mod Answered
pub mod Wanted
pub mod Shared
