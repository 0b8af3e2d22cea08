pub mod Cases
pub mod Settings
pub mod Proved
