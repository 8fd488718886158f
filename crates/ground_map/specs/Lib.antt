pub mod GroundMap
pub mod inside
