pub mod LeftSides
pub mod Sides
pub mod Tightest
pub mod inside
