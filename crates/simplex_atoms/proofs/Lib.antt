pub mod SameTerms
pub mod RowPlaces
pub mod Tight
