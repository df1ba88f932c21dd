pub mod Inverse
pub mod Rows
pub mod Slots
pub mod Sound
pub mod Vacant
