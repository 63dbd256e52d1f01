pub mod Expressions
pub mod Items
pub mod Rulesets
