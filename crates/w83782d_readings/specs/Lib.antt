pub mod Outputs
pub mod Readings
pub mod Claims
