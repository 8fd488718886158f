pub mod State
pub mod Step
pub mod Task
pub mod Words
pub mod Plan
pub mod Growth
pub mod Rolling
