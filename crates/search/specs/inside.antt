-- What the clauses of private functions say. No public clause cites these files.
pub mod Opening
pub mod Solving
pub mod Planning
pub mod Blocks
pub mod Going
