pub mod Count
pub mod Index
pub mod Order
pub mod Places
pub mod Report
