pub mod Registers
pub mod Parts
