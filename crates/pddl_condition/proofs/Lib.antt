pub mod Keywords
pub mod Expressions
pub mod Conditions
pub mod ConditionLaws
pub mod UnreadNot
pub mod Grammar
