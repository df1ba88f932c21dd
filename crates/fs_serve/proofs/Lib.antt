mod Sendings
mod Servings
mod BetweenFrames
mod Delivered
mod Forgetting
mod HeldCounts
mod LongNames
mod LookupCounts
pub mod NodesLater
mod PairsOnce
mod FilledReplies
mod ReplyKinds
mod Releases
