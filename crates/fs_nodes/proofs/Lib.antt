pub mod Callers
pub mod Inverse
pub mod Slots
pub mod Sound
pub mod Vacant
