pub mod Components
pub mod Measured
pub mod Same
