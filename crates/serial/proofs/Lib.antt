pub mod Signed
pub mod Order
pub mod Laws
