pub mod Values
pub mod Runs
pub mod Frames
pub mod Sends
pub mod Steps
pub mod OverLinks
pub mod ListedNodes
pub mod Acts
