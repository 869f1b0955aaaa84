pub mod Check
pub mod Laws
pub mod AdcLaws
pub mod Order
