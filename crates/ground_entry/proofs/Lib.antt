pub mod Growing
pub mod Beginning
pub mod Walking
pub mod Entering
pub mod Acting
