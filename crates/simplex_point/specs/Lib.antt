pub mod Point
pub mod inside
