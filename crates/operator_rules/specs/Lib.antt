pub mod Families
pub mod Rules
pub mod ReachLaws
