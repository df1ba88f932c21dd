pub mod Judged
pub mod Sides
pub mod Turns
pub mod Accepted
