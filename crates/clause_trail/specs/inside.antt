-- What the clauses of private functions say. No public clause cites this file.
pub mod Values
