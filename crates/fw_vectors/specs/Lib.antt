pub mod Members
pub mod Vectors
