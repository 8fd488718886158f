pub mod Fitting
pub mod TypeLaws
pub mod GivenLaws
