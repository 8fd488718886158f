pub mod Readings
pub mod Units
pub mod Keeping
pub mod Cutting
