pub mod Making
pub mod RoundTrip
