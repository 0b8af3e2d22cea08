pub mod Bus
pub mod Parts
