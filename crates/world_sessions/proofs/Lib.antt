mod Served
mod Alone
mod Reading
mod Written
mod Driven
mod Resting
pub mod Over
pub mod GoingOn
