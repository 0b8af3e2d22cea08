pub mod Offset
pub mod Quotient
pub mod Modes
