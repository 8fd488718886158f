pub mod Basis
pub mod Exchange
pub mod Rows
pub mod Start
