pub mod Spelling
pub mod BlankLemmas
pub mod PlaceLemmas
pub mod ReplacingLemmas
pub mod PatternLemmas
pub mod Shared
