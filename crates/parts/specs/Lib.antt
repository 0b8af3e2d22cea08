pub mod Feed
pub mod Stowed
