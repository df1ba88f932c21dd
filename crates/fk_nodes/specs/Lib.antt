pub mod LookedUp
pub mod Rooms
pub mod ListedFiles
pub mod Uses
