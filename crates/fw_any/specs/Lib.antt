pub mod Endings
pub mod Samples
