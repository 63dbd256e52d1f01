mod FamilyLemmas
pub mod WantLemmas
