pub mod Learning
pub mod inside
