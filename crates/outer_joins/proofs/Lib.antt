pub mod Looked
pub mod Right
pub mod Asked
pub mod Shared
