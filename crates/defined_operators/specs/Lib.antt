pub mod Callings
pub mod Expanded
pub mod Uses
pub mod Writers
