pub mod Figure
pub mod Rows
pub mod BitCounts
