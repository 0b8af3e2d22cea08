pub mod Images
pub mod Back
