pub mod Hierarchy
pub mod inside
