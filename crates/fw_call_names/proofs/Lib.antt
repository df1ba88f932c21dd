pub mod Alike
pub mod Givens
pub mod Joining
pub mod PlainTexts
