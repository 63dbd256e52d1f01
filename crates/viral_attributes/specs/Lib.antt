pub mod Combination
