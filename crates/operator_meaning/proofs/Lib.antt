pub mod Items
pub mod ScriptLemmas
pub mod Opened
pub mod ClauseFits
pub mod ManyFits
pub mod FitLemmas
pub mod EmptyLemmas
