-- Refusals, by cases.
pub mod Accepted
pub mod Happened
pub mod RefusalsOnly
pub mod RefusalsByCases
pub mod RefusalsAlso
pub mod SameCounters
pub mod SameRefusals
pub mod NeverMemory
