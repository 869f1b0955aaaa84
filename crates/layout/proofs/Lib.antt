pub mod Filling
pub mod Gathering
pub mod Laws
pub mod Loading
pub mod Reading
pub mod RoundTrip
pub mod Writing
