pub mod Occurring
pub mod Starting
pub mod Copying
pub mod Counting
