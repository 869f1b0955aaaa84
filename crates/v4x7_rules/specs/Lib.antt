pub mod Rules
pub mod Plain
pub mod Order
