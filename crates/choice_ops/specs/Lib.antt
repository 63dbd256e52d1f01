pub mod Plans
pub mod Noted
pub mod Reach
pub mod ReachLaws
pub mod Rules
