pub mod Decimals
pub mod Digits
pub mod Hexes
mod LineFeeds
pub mod Splitting
pub mod Statuses
pub mod Writes
