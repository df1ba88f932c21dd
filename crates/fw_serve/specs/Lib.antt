pub mod Mounts
pub mod Waits
