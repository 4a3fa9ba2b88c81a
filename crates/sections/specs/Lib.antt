pub mod Found
pub mod Placed
