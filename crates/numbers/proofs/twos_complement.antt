pub mod Complement
pub mod Turned
