pub mod Pattern
pub mod Reachable
pub mod Rolled
pub mod Word
pub mod inside
