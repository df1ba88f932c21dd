pub mod Rows
pub mod Keys
pub mod Named
pub mod Counts
pub mod CachedNames
