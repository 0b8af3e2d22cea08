mod Figures
pub mod Levels
