pub mod Written
pub mod ExpressionLaws
pub mod Words
pub mod Good
