-- What each operation does to a tree of files, and which error it has.
pub mod Operations
pub mod OwnedOperations
pub mod Trees
pub mod FileOperations
pub mod TreeShape
