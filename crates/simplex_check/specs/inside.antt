pub mod Moving
pub mod Choices
