pub mod Expanding
pub mod Given
pub mod Scripts
pub mod Walks
