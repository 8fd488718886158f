pub mod Cored
pub mod Solved
pub mod Solving
pub mod Stepping
pub mod inside
