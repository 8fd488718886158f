pub mod Amounts
pub mod Listed
pub mod Rolling
