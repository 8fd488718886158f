pub mod VariableTerms
pub mod Setting
pub mod Parts
pub mod Clash
