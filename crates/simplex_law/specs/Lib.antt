pub mod Pairs
pub mod Bounds
pub mod Config
pub mod Readings
pub mod Runs
