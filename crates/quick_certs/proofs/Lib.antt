pub mod Certs
pub mod Steps
pub mod Tests
