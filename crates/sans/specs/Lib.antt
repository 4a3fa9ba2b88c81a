pub mod Kinds
pub mod Sans
pub mod Stated
