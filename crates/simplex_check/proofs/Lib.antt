pub mod Running
pub mod Knowing
pub mod Stepping
pub mod Consistent
