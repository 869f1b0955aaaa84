pub mod Calls
pub mod Kept
pub mod Reading
pub mod Order
pub mod Rows
pub mod Laws
