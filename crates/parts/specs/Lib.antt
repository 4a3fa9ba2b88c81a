pub mod Ca
pub mod EmptySubject
pub mod PathLength
pub mod SanNames
pub mod Stated
