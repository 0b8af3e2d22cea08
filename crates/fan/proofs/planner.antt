pub mod Ringing
pub mod Best
pub mod Planning
