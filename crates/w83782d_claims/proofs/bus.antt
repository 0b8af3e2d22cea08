pub mod Named
pub mod Reached
pub mod Frames
pub mod Proved
