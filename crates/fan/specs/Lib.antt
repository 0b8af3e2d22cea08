pub mod Count
pub mod Divisors
pub mod Speed
pub mod Plan
pub mod Search
