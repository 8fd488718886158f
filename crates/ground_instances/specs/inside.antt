-- How the argument lists are searched for: by their first arguments.
pub mod Open
pub mod Places
pub mod Search
