pub mod Tools
pub mod Answer
pub mod Said
pub mod Tests
pub mod Order
pub mod Each
pub mod Lists
