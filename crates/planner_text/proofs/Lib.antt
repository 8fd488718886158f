pub mod Refuting
