pub mod SanHost
pub mod Stated
