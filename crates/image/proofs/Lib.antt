pub mod RoundTrip
pub mod Widths
mod Words
pub mod Worked
