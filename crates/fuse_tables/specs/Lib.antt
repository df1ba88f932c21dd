pub mod KeyTests
pub mod LateValues
pub mod Lends
pub mod LiveRows
pub mod NameFronts
pub mod NameKeys
pub mod TableState
pub mod Tallies
