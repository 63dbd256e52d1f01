pub mod Changes
pub mod DataSets
pub mod Noted
pub mod Places
pub mod Unmeasured
