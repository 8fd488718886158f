pub mod Init
pub mod Problem
pub mod inside
pub mod Grammar
