pub mod RequestLemmas
pub mod ReplyLemmas
pub mod PairLemmas
pub mod ListedPairs
pub mod Agreements
pub mod Sayings
mod WrittenRecords
pub mod ReplyCases
pub mod SaidWithin
pub mod LeftListing
