pub mod Duration
pub mod Fingerprints
pub mod Stated
pub mod Symantec
