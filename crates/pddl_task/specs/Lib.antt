pub mod Task
pub mod Calls
pub mod Numbers
pub mod Typed
pub mod Linear
pub mod WellFormed
pub mod inside
