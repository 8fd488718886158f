pub mod Rows
pub mod Operations
pub mod Symbolic
pub mod Numbering
pub mod Encoding
pub mod Made
pub mod Refusals
pub mod Laws
