pub mod Asked
pub mod Events
pub mod Fields
pub mod Keys
pub mod Objects
pub mod Putting
pub mod Strings
pub mod Texts
