pub mod FirstSight
pub mod Keys
