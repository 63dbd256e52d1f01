pub mod RoundLemmas
pub mod JudgeLemmas
pub mod EvalLemmas
pub mod LineLemmas
pub mod OpenLemmas
