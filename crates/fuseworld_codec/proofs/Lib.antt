pub mod Asked
pub mod Buffers
pub mod Minors
pub mod Places
pub mod Written
pub mod Ends
pub mod ReplyKinds
pub mod Replied
