pub mod Calls
pub mod Laws
pub mod Order
pub mod Rows
