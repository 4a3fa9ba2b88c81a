pub mod AuthKeyId
pub mod Stated
