pub mod Fraction
pub mod Rows
