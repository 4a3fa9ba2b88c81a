pub mod Chain
pub mod Rows
pub mod Strings
pub mod Theorems
pub mod Whole
