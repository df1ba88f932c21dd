pub mod ConcernLaws
pub mod FlagLaws
pub mod Keys
pub mod NumberLaws
pub mod PendingLaws
pub mod HandleLaws
pub mod NodeLaws
pub mod OpenLaws
pub mod VerdictLaws
pub mod SeenSoFar
pub mod MarkLaws
pub mod TallyLaws
pub mod TransferLaws
mod WaitingCounts
