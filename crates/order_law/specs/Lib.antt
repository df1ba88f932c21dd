pub mod Commuting
pub mod Moments
