pub mod FiniteSums
pub mod Table
pub mod Named
pub mod Pivot
pub mod Fields
pub mod inside
