pub mod Rule14
