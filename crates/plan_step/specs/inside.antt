-- What the clauses of private functions say. No public clause cites these files.
pub mod Start
pub mod Touching
pub mod Application
pub mod Sums
