pub mod Noted
pub mod Rules
