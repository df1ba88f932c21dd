pub mod Names
pub mod NameActs
pub mod NameSessions
pub mod RequestNames
pub mod ReplyNames
pub mod NameFrames
pub mod NameTheorems
