mod Making
mod Meeting
mod Calls
mod Folding
mod Answering
mod Comparing
