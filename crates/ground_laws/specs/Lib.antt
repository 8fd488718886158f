pub mod Result
pub mod Laws
