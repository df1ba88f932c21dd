pub mod Kept
pub mod Given
pub mod Waits
pub mod Seen
pub mod Judged
