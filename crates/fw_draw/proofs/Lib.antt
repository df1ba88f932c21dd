pub mod Reading
pub mod Statuses
