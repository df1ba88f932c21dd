pub mod Arguments
pub mod Commands
pub mod DriveWords
pub mod Tasks
pub mod Values
