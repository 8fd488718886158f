pub mod KeptLaws
pub mod NumberLaws
pub mod ReadLaws
pub mod Standing
pub mod StandingLaws
pub mod Within
