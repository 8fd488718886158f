pub mod Events
pub mod inside
