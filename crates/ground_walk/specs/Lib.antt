pub mod Sightings
pub mod Walk
