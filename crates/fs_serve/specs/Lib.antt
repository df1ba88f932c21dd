pub mod LongBatches
pub mod LongInits
pub mod LongNames
pub mod Blocks
pub mod Sending
pub mod Serving
pub mod LookupCounts
pub mod NodePairs
