mod Steps
mod Logs
mod Twice
