pub mod Examples
pub mod Rows
pub mod Days
pub mod Sizes
pub mod Reported
