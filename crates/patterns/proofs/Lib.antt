pub mod Hosts
pub mod Ranges
pub mod Theorems
