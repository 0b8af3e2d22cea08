pub mod Samples
pub mod Form
