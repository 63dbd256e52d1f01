pub mod StageLemmas
pub mod ScriptLemmas
pub mod CommandLemmas
pub mod NumberLemmas
