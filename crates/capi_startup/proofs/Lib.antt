pub mod Calling
pub mod Laying
pub mod Placing
pub mod Starting
