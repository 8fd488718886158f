pub mod GrowthLaws
pub mod RollingLaws
pub mod WordLaws
pub mod RunLaws
pub mod ValueLaws
