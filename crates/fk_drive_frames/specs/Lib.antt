pub mod Agreements
pub mod Asides
pub mod Filling
pub mod OwnRequests
