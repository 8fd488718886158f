pub mod Lemmas
pub mod Points
pub mod Stuck
pub mod Judged
pub mod inside
