-- The machine of both sides and their links: one event, and its outcome or refusal.
pub mod Events
pub mod Worlds
pub mod Steps
pub mod Refusals
pub mod Records
