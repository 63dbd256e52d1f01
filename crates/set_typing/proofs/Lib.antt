pub mod Choosing
pub mod Members
pub mod Plans
pub mod Checked
