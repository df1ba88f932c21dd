pub mod Handles
pub mod Uses
