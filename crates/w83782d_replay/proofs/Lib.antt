pub mod Logs
pub mod Runs
