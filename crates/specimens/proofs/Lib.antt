pub mod Proved
