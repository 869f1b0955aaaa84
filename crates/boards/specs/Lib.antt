pub mod Tray
pub mod Laws
pub mod Order
pub mod Rows
