pub mod Firsts
pub mod Paths
pub mod Cycles
pub mod Tables
