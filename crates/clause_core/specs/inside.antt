-- What the clauses of private functions say. No public clause cites these files.
pub mod Asking
pub mod Handing
pub mod Levels
pub mod Searching
pub mod Taking
