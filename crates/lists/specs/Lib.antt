pub mod Listed
pub mod Stated
