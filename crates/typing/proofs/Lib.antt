pub mod NumberLaws
pub mod Numbered
pub mod Passes
pub mod ItemLaws
pub mod TypedLaws
pub mod TypeTree
pub mod ValueLaws
pub mod WellFormedLaws
