pub mod Parts
pub mod Amounts
pub mod ValueAtoms
