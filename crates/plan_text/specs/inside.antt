-- What the clauses of private functions say. No public clause cites these files.
pub mod Extending
pub mod Finishing
pub mod Numbering
pub mod Pieces
pub mod Steps
pub mod Tables
