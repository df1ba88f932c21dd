-- Replies: those kept, those sent, and how each is taken.
pub mod KeptOnLink
pub mod CopiesSound
pub mod RepliesGo
pub mod WriteNeeds
pub mod NoFault
pub mod KeptReplies
pub mod NoWrongBody
pub mod RepliesFitStay
