pub mod Settings
pub mod SettingsClaims
