pub mod CallKinds
pub mod Stores
pub mod Ringing
pub mod Alarm
