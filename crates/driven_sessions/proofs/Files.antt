-- Open files: those that a kernel has, those that a session shows, and what a kernel does with them.
mod KernelFiles
mod Opened
mod Bodies
mod Frames
mod Rows
mod FrameActs
mod Replies
mod Picked
mod Ties
mod Short
mod Growing
mod Free
mod Balance
mod Waiting
mod Present
mod Last
mod DirectoryFrames
mod DirectoryReplies
mod OpenDirectories
mod DirectorySteps
mod RunPresent
pub mod UsedRightly
pub mod DirectoriesUsedRightly
mod DirectoryOpens
mod ForgetActs
mod ForgetFrames
mod ForgetSteps
mod DirectoriesShown
mod UnopenedSteps
pub mod NamedKept
pub mod OpenedKept
