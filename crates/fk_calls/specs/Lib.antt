pub mod Names
pub mod Pins
