pub mod Each
pub mod Steps
