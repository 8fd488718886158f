pub mod Faults
pub mod Domain
pub mod TypeNames
pub mod Problem
pub mod Items
pub mod Tables
