pub mod Places
pub mod SortedEntries
pub mod PlaceOrder
pub mod Restored
pub mod KeyedRows
pub mod BoundNames
pub mod FirstBound
mod KeyOrder
pub mod NamedIds
pub mod Counts
pub mod TableLemmas
