pub mod Map
pub mod Cells
pub mod Access
