pub mod Temperature
pub mod Pwm
pub mod Readings
