pub mod Ticks
pub mod Runs
