pub mod Bytes
pub mod Cutting
pub mod FeedsRead
pub mod NameLines
pub mod Quoted
pub mod RowsRead
pub mod Tables
pub mod Told
