-- Trees of files, and operations on them.
pub mod HeldOperations
pub mod Trees
pub mod NamelessDiscarded
pub mod Names
pub mod SameFilesAfter
pub mod TreeSound
