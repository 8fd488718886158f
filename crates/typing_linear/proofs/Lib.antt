pub mod Noted
pub mod Changed
pub mod Reading
pub mod Resolved
