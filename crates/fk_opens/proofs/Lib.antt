pub mod Counted
pub mod Pins
