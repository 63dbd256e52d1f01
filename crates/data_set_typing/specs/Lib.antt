pub mod Kinds
pub mod Known
pub mod Meetings
pub mod Plans
pub mod Slots
