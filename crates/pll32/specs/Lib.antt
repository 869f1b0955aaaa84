pub mod Pll
pub mod Answers
pub mod Laws
pub mod Order
