pub mod Words
pub mod Walks
pub mod Plans
pub mod States
pub mod Values
pub mod NewNames
pub mod Rows
pub mod Listings
