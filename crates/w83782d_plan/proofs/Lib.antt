pub mod settings
