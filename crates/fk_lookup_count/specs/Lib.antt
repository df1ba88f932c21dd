pub mod CountedNodes
pub mod Slots
