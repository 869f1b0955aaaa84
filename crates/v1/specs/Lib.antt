pub mod V1
pub mod Rows
pub mod Order
