pub mod Stored
pub mod StoredParts
