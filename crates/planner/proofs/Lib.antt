pub mod Numerals
pub mod Options
pub mod Reading
pub mod Running
pub mod Answered
pub mod PlannerLaws
