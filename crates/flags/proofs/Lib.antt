pub mod Joined
pub mod Slices
