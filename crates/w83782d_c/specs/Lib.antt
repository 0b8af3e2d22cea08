pub mod Values
pub mod Alarm
