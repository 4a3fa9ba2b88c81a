pub mod Spans
pub mod Stated
