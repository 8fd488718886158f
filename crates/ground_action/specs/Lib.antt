pub mod Setting
pub mod Parts
pub mod Leaves
pub mod GroundAction
pub mod Agrees
pub mod Rolls
pub mod Laws
pub mod Work
