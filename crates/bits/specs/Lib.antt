pub mod Bits
pub mod Map
pub mod Claims
pub mod Fields
pub mod FieldClaims
pub mod Stores
