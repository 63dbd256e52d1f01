pub mod Places
pub mod Parts
pub mod Taken
pub mod Numbered
pub mod Right
pub mod Looked
pub mod Asked
pub mod Shared
