pub mod Fraction
pub mod Floor
pub mod Sums
pub mod Linear
pub mod Farkas
