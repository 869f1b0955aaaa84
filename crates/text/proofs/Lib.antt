pub mod Numbers
pub mod Signed
