-- What the clauses of private functions say. No public clause cites these files.
pub mod Running
pub mod Rising
pub mod Made
pub mod Acts
pub mod Lists
pub mod Assembly
pub mod Goal
