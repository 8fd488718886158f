pub mod Readings
pub mod Lemmas
