-- What the headline says: the refinement relation, the counts that are kept, and whole lists of events.
pub mod Denotes
pub mod Counts
pub mod Alike
pub mod Runs
pub mod Sessions
