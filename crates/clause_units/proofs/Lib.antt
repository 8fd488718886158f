pub mod Tables
pub mod Literals
pub mod Scans
pub mod Telling
pub mod Hints
