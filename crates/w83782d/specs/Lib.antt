pub mod Monitor
pub mod Alarm
