pub mod FixedLists
pub mod Standard
