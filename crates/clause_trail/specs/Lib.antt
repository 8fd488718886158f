pub mod Scanning
pub mod Propagation
pub mod Decisions
pub mod Pushing
pub mod Standing
pub mod inside
