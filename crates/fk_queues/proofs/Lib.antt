pub mod Places
pub mod Releases
pub mod Requests
pub mod Served
