pub mod Parts
pub mod Course
pub mod Grounds
pub mod inside
