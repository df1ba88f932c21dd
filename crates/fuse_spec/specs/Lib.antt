pub mod Values
pub mod Files
pub mod Calls
pub mod Kernel
pub mod Server
pub mod World
pub mod Reference
pub mod Claim
