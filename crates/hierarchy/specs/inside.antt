-- What the fields hold, and what the clauses of private functions say. No public clause cites these files.
pub mod Entries
pub mod Walks
