pub mod StatusLaws
pub mod AfterLaws
pub mod Crossings
