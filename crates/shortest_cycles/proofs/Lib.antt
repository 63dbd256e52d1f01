pub mod CycleLemmas
pub mod CyclesFound
pub mod Rows
pub mod FirstCycles
pub mod Lines
