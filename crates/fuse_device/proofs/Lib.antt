mod Frames
mod Moving
mod Tries
