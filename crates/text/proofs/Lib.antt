pub mod Puts
pub mod Decimal
pub mod Point
pub mod Sign
