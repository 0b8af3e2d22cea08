mod Examples
pub mod Offsets
pub mod Quotients
pub mod Moves
pub mod Steps
