pub mod Agreements
pub mod OneField
pub mod Filled
pub mod Puts
pub mod Heads
