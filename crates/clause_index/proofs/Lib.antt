mod Staying
mod Listing
