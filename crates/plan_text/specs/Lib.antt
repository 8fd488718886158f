pub mod Lines
pub mod Written
pub mod PlanText
pub mod Laws
pub mod inside
