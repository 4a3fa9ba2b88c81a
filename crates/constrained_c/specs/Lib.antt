pub mod Rule14
pub mod Rule16
pub mod Stated
