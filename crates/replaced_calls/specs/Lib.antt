pub mod Laws
pub mod Replacing
pub mod ScriptLaws
pub mod ScriptSteps
pub mod Scripts
pub mod Steps
