pub mod Seen
pub mod Answers
pub mod Inputs
pub mod Slots
pub mod Kept
pub mod Steps
-- journals, and statements at work, for what stands above
pub use Rattle.round_journal.specs.Journals
pub use Rattle.round_journal.specs.Stands
pub use Rattle.round_journal.specs.Releases
pub use Rattle.round_journal.specs.Counts
pub use Rattle.round_journal.specs.declared.entry
pub use Rattle.round_journal.specs.declared.verdict
pub use Rattle.round_journal.specs.Nodes
pub use Rattle.round_journal.specs.Faults
pub use Rattle.round_journal.specs.work
