pub mod Found
pub mod Rows
