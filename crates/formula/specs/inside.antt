pub mod Sums
pub mod Keys
