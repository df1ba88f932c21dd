pub mod NumberMaps
pub mod SlotLemmas
pub mod LookupLemmas
