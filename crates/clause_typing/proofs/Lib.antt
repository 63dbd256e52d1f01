pub mod Demanding
pub mod Differing
pub mod Keys
pub mod Nameless
pub mod OfKinds
pub mod Places
pub mod Rooms
pub mod Walks
