mod Logged
mod ReadBack
mod Said
mod Writing
