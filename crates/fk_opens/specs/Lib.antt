pub mod Pins
pub mod Uses
