-- How ground things are compared and hashed.
pub mod Same
