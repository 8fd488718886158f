pub mod ValidatorLaws
