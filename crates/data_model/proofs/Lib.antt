pub mod DeltaLemmas
pub mod DraftLemmas
pub mod EntryLemmas
pub mod MapLemmas
pub mod OutcomeLemmas
mod ExampleLemmas
