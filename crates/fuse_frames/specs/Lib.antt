pub mod RequestTies
pub mod ReplyTies
pub mod Replies
pub mod DecodedReplies
pub mod ReplyDecoding
