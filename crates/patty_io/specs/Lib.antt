pub mod Faults
pub mod Failures
pub mod Shelf
pub mod Sink
pub mod Memory
pub mod inside
