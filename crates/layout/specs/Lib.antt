pub mod Bits
pub mod Codec
pub mod Gathered
pub mod Layout
pub mod Lent
pub mod Numbers
pub mod Order
pub mod Stored
