pub mod Value
pub mod Known
pub mod Checks
pub mod Starts
pub mod inside
