pub mod Demands
pub mod EntriesChrome
pub mod EntriesOpenSsl
pub mod Laws
pub mod ObeyingChrome
pub mod ObeyingOpenSsl
pub mod Places
pub mod ShutOut
