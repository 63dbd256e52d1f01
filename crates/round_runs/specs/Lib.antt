pub mod Answers
pub mod Eval
pub mod Lines
pub mod Rounds
pub mod Runs
-- productions and their journals, for what stands above
pub use Rattle.round_core.specs.Seen
pub use Rattle.round_core.specs.Journals
