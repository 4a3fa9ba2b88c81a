pub mod DataFile
