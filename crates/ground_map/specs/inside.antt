-- How a map of the program is seen as a list.
pub mod Entries
