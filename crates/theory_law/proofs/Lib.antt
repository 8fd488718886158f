pub mod Atomless
pub mod Fronts
pub mod Marks
pub mod Zeros
