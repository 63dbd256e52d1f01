pub mod Noted
pub mod Rules
pub mod Reach
