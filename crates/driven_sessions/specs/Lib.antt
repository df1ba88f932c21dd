pub mod Groups
pub mod Transfers
pub mod Taken
pub mod Driven
pub mod Counted
pub mod Files
pub mod Forgets
pub mod Rules
