mod Denying
mod Parts
mod Newness
mod Indexing
mod Nexts
mod Readies
mod Accepting
