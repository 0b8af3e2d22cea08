pub mod Text
pub mod Pages
pub mod Numbers
pub mod Examples
