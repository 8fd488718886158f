pub mod Truth
pub mod Scanning
