pub mod Words
pub mod Planner
pub mod inside
