pub mod Taking
pub mod Texts
pub mod Walking
