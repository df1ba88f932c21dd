pub mod Frames
pub mod Stops
pub mod Words
pub mod Endings
