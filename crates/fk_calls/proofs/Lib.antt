pub mod AnyRow
pub mod Answered
