pub mod Packed
pub mod Exports
