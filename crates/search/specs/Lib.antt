pub mod Searching
pub mod inside
