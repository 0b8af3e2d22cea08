pub mod InForce
pub mod Chip
pub mod Laws
pub mod Carried
