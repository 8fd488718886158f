-- What the clauses of private functions say. No public clause cites these files.
pub mod Answering
