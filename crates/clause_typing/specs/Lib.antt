pub mod Keys
pub mod Rooms
