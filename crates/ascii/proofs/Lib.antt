pub mod Blocks
pub mod Chains
pub mod Chars
pub mod Theorems
