pub mod Refusals
pub mod Walking
pub mod inside
