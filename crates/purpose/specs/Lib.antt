pub mod Purpose
pub mod Stated
