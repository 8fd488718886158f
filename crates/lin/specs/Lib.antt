pub mod Normal
pub mod NormalLaws
pub mod Linear
pub mod Code
pub mod Operations
pub mod Made
pub mod Negative
