pub mod Map
pub mod Access
pub mod Parts
