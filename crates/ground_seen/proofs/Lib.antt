pub mod Answering
pub mod Seeing
pub mod Naming
