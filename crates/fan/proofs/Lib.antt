pub mod Divisors
pub mod Speeds
pub mod DivisorFields
