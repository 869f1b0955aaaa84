pub mod Bytes
pub mod Laws
pub mod Records
pub mod Order
