pub mod ProblemLaws
pub mod Heads
pub mod Grammar
