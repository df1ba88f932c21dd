pub mod Soundness
pub mod Refused
pub mod Picks
pub mod AwaitedReplies
pub mod Entries
pub mod CallReplies
pub mod KernelSteps
