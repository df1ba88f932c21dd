pub mod Errors
pub mod InitFlags
pub mod Words
pub mod Requests
pub mod Replies
pub mod Frames
