-- The kernel: request numbers, queues, INTERRUPT, forgets, and how a written reply is judged.
pub mod Uniques
pub mod Queues
pub mod Signals
pub mod QueueCalls
pub mod QueueLaws
pub mod Messages
pub mod Kernel
pub mod Replies
pub mod Refusals
