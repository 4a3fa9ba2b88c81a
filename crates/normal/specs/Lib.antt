pub mod Normal
pub mod Walk
