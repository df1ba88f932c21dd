mod Answering
mod Delivering
