pub mod Decode
pub mod Queries
pub mod QueryLaws
pub mod Order
