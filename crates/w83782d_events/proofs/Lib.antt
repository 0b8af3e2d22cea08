pub mod Events
pub mod Latched
pub mod Looks
