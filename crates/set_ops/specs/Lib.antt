pub mod Orders
pub mod Readings
pub mod Noted
pub mod Rules
pub mod Reach
