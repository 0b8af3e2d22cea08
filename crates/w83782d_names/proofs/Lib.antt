pub mod Trimmed
pub mod Tables
pub mod Cases
