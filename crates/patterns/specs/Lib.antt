pub mod Address
pub mod Patterns
