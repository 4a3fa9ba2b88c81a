pub mod Decode
pub mod Marks
pub mod Model
pub mod Sections
pub mod Shown
