pub mod BusClaims
pub mod Sampled
pub mod SampleClaims
pub mod Alarm
pub mod Quiet
pub mod Figures
