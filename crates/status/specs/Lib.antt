pub mod Status
pub mod Claims
