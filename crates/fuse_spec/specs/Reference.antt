-- The plain world: the abstract specification.
pub mod Plain
pub mod PlainSteps
pub mod PlainCalls
pub mod PlainWords
