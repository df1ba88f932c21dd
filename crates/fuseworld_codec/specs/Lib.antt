pub mod Status
pub mod RequestStructs
pub mod ReplyStructs
