pub mod Feeds
pub mod Finding
pub mod Putting
pub mod Written
