pub mod HexTexts
pub mod Lines
pub mod Nodes
pub mod Outputs
pub mod Printed
pub mod Stops
pub mod Words
