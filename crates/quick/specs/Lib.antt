pub mod Asked
pub mod Fine
pub mod Stated
