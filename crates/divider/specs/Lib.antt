pub mod Facts
pub mod Frequency
pub mod Divide
pub mod Table
pub mod Laws
