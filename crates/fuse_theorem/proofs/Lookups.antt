-- Lookup counts on both sides and on the way.
pub mod RowCounts
pub mod Lookups
pub mod WireCounts
pub mod PerformedCounts
pub mod LookupsServed
pub mod CountsStay
pub mod LookupsAfterReply
pub mod LookupsStay
pub mod AtRest
pub mod ForgetsNeeds
pub mod ForgetsCounted
