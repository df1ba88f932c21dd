pub mod Chances
pub mod Comments
pub mod Parts
