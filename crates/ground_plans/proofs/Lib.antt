pub mod PlanLaws
pub mod Words
