pub mod Bounds
pub mod LemmaLaws
pub mod Points
pub mod Copies
pub mod Stuck
pub mod Judging
