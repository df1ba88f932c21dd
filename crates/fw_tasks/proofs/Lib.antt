mod Adding
mod Names
mod Parsing
mod Reading
