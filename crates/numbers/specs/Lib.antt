pub mod Numbers
pub mod Rounding
pub mod TwosComplement
pub mod Wrapping
