pub mod Effects
pub mod Ovt
