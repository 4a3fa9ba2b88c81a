pub mod Judged
pub mod Obeys
