pub mod Drafts
pub mod inside
