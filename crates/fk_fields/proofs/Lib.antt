pub mod Names
pub mod WholeNames
pub mod Signed
