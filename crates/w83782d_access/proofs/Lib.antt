pub mod Accesses
pub mod Plain
