pub mod NoHeader
pub mod Ranges
