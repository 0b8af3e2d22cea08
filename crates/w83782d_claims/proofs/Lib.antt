pub mod bus
pub mod sample
pub mod alarm
pub mod figures
