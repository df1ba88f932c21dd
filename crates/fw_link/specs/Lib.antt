pub mod Envelopes
pub mod Cutting
pub mod Streams
pub mod Traffic
pub mod InMemory
pub mod Streamed
pub mod Carrying
