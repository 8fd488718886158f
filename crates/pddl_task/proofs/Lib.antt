pub mod Lowering
pub mod Written
