pub mod Issuing
pub mod Stated
