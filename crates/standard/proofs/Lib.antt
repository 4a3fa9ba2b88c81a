pub mod Accepted
pub mod Chrome
pub mod Follows
pub mod OpenSsl
