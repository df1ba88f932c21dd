-- The plain world, the abstract specification, and its steps.
pub mod PlainWalks
pub mod PlainBegins
pub mod PlainReplies
pub mod PlainGivesUp
pub mod PlainWorld
pub mod PlainAsks
