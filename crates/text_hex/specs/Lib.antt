pub mod Hex
pub mod Examples
