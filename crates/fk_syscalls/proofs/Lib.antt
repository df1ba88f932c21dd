pub mod Positions
pub mod Splits
pub mod Faults
pub mod FaultlessWords
pub mod Parents
pub mod BytesLeft
pub mod Advances
pub mod NamesStay
mod RowsLemmas
