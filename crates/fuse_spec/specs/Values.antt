-- Finite maps, error numbers, limits.
pub mod Maps
pub mod Numbers
