pub mod Ending
pub mod Lists
pub mod Reading
pub mod Commuting
pub mod Worlds
