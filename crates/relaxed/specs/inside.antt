pub mod Kept
pub mod Ranging
pub mod Answering
pub mod Widening
pub mod Nexting
pub mod Testing
pub mod Starting
pub mod Running
