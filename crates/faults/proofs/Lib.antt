pub mod Index
pub mod Laws
pub mod Lengths
pub mod Standing
pub mod Theorems
