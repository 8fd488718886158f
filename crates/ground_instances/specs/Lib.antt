pub mod ArgumentLists
pub mod Index
pub mod inside
