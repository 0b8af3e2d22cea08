pub mod Accesses
pub mod Parts
