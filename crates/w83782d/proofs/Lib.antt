pub mod Wrappers
pub mod Calls
