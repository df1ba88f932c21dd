pub mod Printing
pub mod Assembling
pub mod Answering
