pub mod Place
pub mod Hosted
pub mod First
pub mod Boards
