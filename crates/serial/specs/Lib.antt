pub mod Serial
pub mod Order
pub mod Laws
pub mod Rows
