pub mod Scope
pub mod Names
pub mod Expressions
pub mod Operators
