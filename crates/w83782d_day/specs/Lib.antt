pub mod Day
pub mod Report
