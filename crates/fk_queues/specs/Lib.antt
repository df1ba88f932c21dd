pub mod KernelQueues
pub mod Releases
pub mod Requests
pub mod Room
pub mod State
