pub mod Groups
pub mod Exchanges
pub mod Entries
pub mod Served
pub mod Counterexamples
