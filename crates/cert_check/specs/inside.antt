pub mod Indexed
pub mod Ready
