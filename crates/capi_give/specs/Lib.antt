pub mod Given
pub mod Giving
