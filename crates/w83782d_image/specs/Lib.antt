pub mod Image
pub mod Claims
pub mod Words
