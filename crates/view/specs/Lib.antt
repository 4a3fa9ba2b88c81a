pub mod Shown
pub mod Stated
