pub mod Judged
pub mod Counting
pub mod Lengths
pub mod Counts
pub mod Outs
pub mod Rooms
pub mod NodeRooms
mod MostLookups
