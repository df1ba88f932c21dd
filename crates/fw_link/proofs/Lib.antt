pub mod Cuts
pub mod Spellings
pub mod Splitting
pub mod Fronts
