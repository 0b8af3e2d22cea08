pub mod ReportText
pub mod Examples
