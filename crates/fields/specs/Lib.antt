pub mod Keys
pub mod KeyLevel
pub mod KeyUsage
pub mod Signatures
pub mod Stated
pub mod Uids
pub mod Validity
