pub mod Hostname
pub mod Stated
