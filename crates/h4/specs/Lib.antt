pub mod H4
pub mod Laws
pub mod Order
