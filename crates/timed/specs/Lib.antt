-- The definitions of crate timed. Assumes nothing.
pub mod Packed
