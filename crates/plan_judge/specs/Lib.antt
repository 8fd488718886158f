pub mod Written
pub mod Course
pub mod Laws
