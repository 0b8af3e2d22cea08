pub mod Force
pub mod Lists
pub mod Writes
pub mod Held
pub mod Ringing
pub mod Chips
pub mod Instances
pub mod Carriers
