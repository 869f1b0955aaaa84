pub mod V30x
pub mod Rows
pub mod Order
