pub mod Counters
pub mod Judged
pub mod Happening
pub mod LastFrames
pub mod Refusing
pub mod WorldParts
pub mod EventEffects
pub mod Copies
pub mod Collecting
pub mod Recording
pub mod Interrupts
pub mod MemoryRefusals
pub mod Stepping
pub mod Sending
pub mod Losing
pub mod OverLinks
pub mod InOrder
mod ListedNodes
mod Picking
mod Stepped
mod Transferred
mod Alone
