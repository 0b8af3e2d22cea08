pub mod Cutting
pub mod Kept
pub mod Walks
pub mod Figures
