pub mod ClausesMade
pub mod Fused
pub mod Layers
pub mod Rounds
