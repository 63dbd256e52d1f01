pub mod Rules
pub mod Noted
pub mod Reach
pub mod ReachLaws
