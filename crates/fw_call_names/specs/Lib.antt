pub mod CallNames
pub mod Given
pub mod Naming
pub mod PlainScripts
