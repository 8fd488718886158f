pub mod Runs
pub mod Parts
pub mod Meanings
pub mod OneOutcome
