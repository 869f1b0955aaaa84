pub mod Writes
pub mod Steps
pub mod Call
pub mod View
pub mod Owed
pub mod Laws
pub mod Order
