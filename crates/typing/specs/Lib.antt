pub mod Link
pub mod Resolved
