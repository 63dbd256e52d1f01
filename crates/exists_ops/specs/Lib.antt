pub mod Parts
pub mod Told
pub mod Noted
pub mod Walked
pub mod Rules
