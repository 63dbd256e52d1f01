mod Lists
mod KeptLemmas
mod JudgeLemmas
mod SlotLemmas
mod MoveLemmas
mod ClaimLemmas
mod ReleaseLemmas
mod EndLemmas
mod NameLemmas
mod GiveLemmas
mod BackLemmas
mod OpenLemmas
mod NewLemmas
mod NextLemmas
mod StepLemmas
mod RunLemmas
mod AnswerLemmas
mod RescriptLemmas
-- on journals, for what stands above
pub use Rattle.round_journal.proofs.BoundLemmas
pub use Rattle.round_journal.proofs.InputLemmas
pub use Rattle.round_journal.proofs.JournalLemmas
pub use Rattle.round_journal.proofs.StandLemmas
