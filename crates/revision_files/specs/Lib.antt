pub mod Answers
pub mod Blocks
pub mod Columns
pub mod Feeds
pub mod Readers
pub mod Rows
pub mod Seen
pub mod Texts
