pub mod Lists
pub mod RowLemmas
pub mod CombinationLemmas
pub mod Counted
pub mod Whole
pub mod Right
pub mod Asked
pub mod Shared
