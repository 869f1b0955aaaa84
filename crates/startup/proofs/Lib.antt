pub mod Codes
pub mod Shape
pub mod Cases
pub mod Order
pub mod View
