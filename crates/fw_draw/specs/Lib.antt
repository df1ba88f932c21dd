pub mod Endings
pub mod Svg
