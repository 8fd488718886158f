pub mod Expression
pub mod Condition
pub mod Grammar
