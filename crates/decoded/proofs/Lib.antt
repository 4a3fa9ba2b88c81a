pub mod Codes
pub mod Fields
pub mod Gives
pub mod Same
pub mod Whole
