pub mod Wide
pub mod Joined
