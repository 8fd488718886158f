pub mod Fit
pub mod Assigned
pub mod inside
