pub mod Atoms
pub mod Contents
pub mod Equal
pub mod Reading
pub mod Meets
pub mod Farkas
pub mod inside
