pub mod Readings
pub mod Splits
pub mod Seen
pub mod Verdicts
pub mod Units
pub mod Log
pub mod Licence
pub mod Sinks
