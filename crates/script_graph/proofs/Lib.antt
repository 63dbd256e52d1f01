pub mod Answering
pub mod Orders
pub mod OneOrder
pub mod RepeatLemmas
pub mod Naming
pub mod Whole
pub mod Trees
pub mod Measures
